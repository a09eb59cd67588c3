-- Which rules may be refused in some cycle, by the lists of their accesses and the order of rules.
use Rattle.std.specs.Prelude.{ℕ, Bool, true, false, ◌&&◌, ◌||◌, List, [], ◌∷◌, length}
use Rattle.std.specs.List.{list_any, range_with_len}
use Rattle.koika_check.specs.declared.checked.Checked.{Checked}
use Rattle.lab_lint.specs.Order.{Order, is_scheduled}
use Rattle.lab_lint.specs.Refusals.{clashing, own_writes}

-- the numbers of these
abbrev pub numbers : {X : Type 0} → List X → List ℕ
numbers xs = range_with_len 0 (length xs)

-- there is one of these
abbrev pub has_any : {X : Type 0} → List X → Bool
has_any [] = false
has_any (x ∷ xs) = true

-- a scheduled rule has a write that its own accesses may refuse
abbrev pub may_refuse_itself : Checked → (rule : ℕ) → Bool
may_refuse_itself d rule =
    is_scheduled d.nodes rule && list_any (λ register. has_any (own_writes d rule register)) (numbers d.registers)

-- the rule has an access that cannot follow some access of this earlier rule
abbrev pub may_clash : Checked → (rule earlier : ℕ) → Bool
may_clash d rule earlier = list_any (λ register. has_any (clashing d rule earlier register)) (numbers d.registers)

-- the rule has an access that cannot follow some access of a rule that may precede it
abbrev pub may_be_clashed : Order → Checked → (rule : ℕ) → Bool
may_be_clashed order d rule =
    list_any (λ earlier. order.may_precede earlier rule && may_clash d rule earlier) (numbers d.rules)

-- the rule's own accesses, or those of a rule that may precede it, may refuse it
abbrev pub may_be_refused : Order → Checked → (rule : ℕ) → Bool
may_be_refused order d rule = may_refuse_itself d rule || may_be_clashed order d rule
