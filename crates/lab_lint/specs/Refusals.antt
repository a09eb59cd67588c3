-- Which accesses of a rule may be refused, by the rule's own earlier accesses or by those of a rule that fired
-- before, as a function of their bodies. After the checks of Kôika's logs (Bourgeat et al., PLDI 2020).
use Rattle.std.specs.Prelude.{ℕ, Bool, true, false, not, ◌==◌, ◌&&◌, List, [], ◌∷◌, ◌++◌, map}
use Rattle.std.specs.List.{filter, list_any, range_with_len}
use Rattle.typed_core.specs.Clash.{clashes}
use Rattle.typed_core.specs.Laws.{read_at, write_at}
use Rattle.typed_core.specs.declared.access.Access.{Access}
use Rattle.typed_core.specs.declared.limits.TheConstants.{PORTS}
use Rattle.koika_check.specs.declared.checked.Checked.{Checked}
use Rattle.lab_core.specs.Numbers.{same_access}
use Rattle.lab_lint.specs.Occurrences.{Pair, Part, rule_part}
use Rattle.lab_lint.specs.declared.occurrence.Occurrence.{Occurrence}
use Rattle.lab_lint.specs.declared.occurrence.Occurrence.TheVariants as occurrence

-- ---- occurrences

-- the occurrence is of this access
abbrev pub is_access : Access → Occurrence → Bool
is_access a (occurrence.Access b) = same_access a b
is_access a o = false

-- the access cannot follow this occurrence
abbrev pub cannot_follow : Access → Occurrence → Bool
cannot_follow a (occurrence.Access earlier) = clashes a earlier
cannot_follow a o = false

-- the ports of a register
abbrev pub ports : List ℕ
ports = range_with_len 0 PORTS

-- the accesses of a register that there are: reads before writes, lower ports before higher ones
abbrev pub accesses_of : (register : ℕ) → List Access
accesses_of register = map (λ port. read_at port register) ports ++ map (λ port. write_at port register) ports

-- ---- what a rule makes

-- the access occurs in the part
abbrev pub occurs_in : Part → Access → Bool
occurs_in part a = list_any (is_access a) part.all

-- the accesses of a register that a rule makes
abbrev pub made : Checked → (rule register : ℕ) → List Access
made d rule register = filter (occurs_in (rule_part d rule)) (accesses_of register)

-- ---- a rule's own refusals

-- an occurrence of the access has an earlier one that it cannot follow
abbrev pub is_refused_in : Part → Access → Bool
is_refused_in part a = list_any (λ (p : Pair). is_access a p.later && cannot_follow a p.earlier) part.pairs

-- the writes of a register that a rule's own accesses may refuse
abbrev pub own_writes : Checked → (rule register : ℕ) → List Access
own_writes d rule register =
    filter (λ (a : Access). a.write && is_refused_in (rule_part d rule) a) (made d rule register)

-- ---- refusals by an earlier rule

-- the accesses of a register by a rule that cannot follow some access of it by this earlier rule
abbrev pub clashing : Checked → (rule earlier register : ℕ) → List Access
clashing d rule earlier register =
    filter (λ (a : Access). list_any (λ (e : Access). clashes a e) (made d earlier register)) (made d rule register)

-- the accesses of the register by the earlier rule that some access of it by the rule cannot follow
abbrev pub clashed : Checked → (rule earlier register : ℕ) → List Access
clashed d rule earlier register =
    filter (λ (e : Access). list_any (λ (a : Access). clashes a e) (made d rule register)) (made d earlier register)
