-- What is found of a typed design, by which its notes are made.
use Rattle.std.specs.Prelude.{◌≡◌, ℕ, Bool, true, false, List, [], map, slice_index_or}
use Rattle.koika_check.specs.Typing.{IsTypedDesign}
use Rattle.koika_check.specs.declared.checked.Checked.{Checked}
use Rattle.typed_core.specs.declared.access.Access.{Access}
use Rattle.lab_lint.specs.Occurrences.{rule_part}
use Rattle.lab_lint.specs.Order.{IsOrder, Order, is_scheduled}
use Rattle.lab_lint.specs.Refusals.{made, own_writes}
use Rattle.lab_lint.specs.Rules.{numbers}
use Rattle.lint_text.specs.declared.findings.Findings.{Findings}

-- the flag of this number is set
abbrev pub is_set : List Bool → ℕ → Bool
is_set flags number = slice_index_or flags number false

-- what the flags say of the order of rules; a rule that isn't there is untried
abbrev pub order_of : Findings → Order
order_of f = record {
  may_precede = λ earlier rule. is_set (slice_index_or f.precedes earlier []) rule;
  may_be_untried = λ rule. slice_index_or f.untried rule true;
}

-- accesses by rule and register
abbrev pub by_register : Checked → ((rule register : ℕ) → List Access) → List (List (List Access))
by_register d accesses = map (λ rule. map (accesses rule) (numbers d.registers)) (numbers d.rules)

-- the findings are those of the typed design, but for which rules never fire
pub record AreFindings (d : Checked) (f : Findings) : Type 0 where
  pub typed : IsTypedDesign d
  pub occurrences : f.occurrences ≡ map (λ rule. (rule_part d rule).all) (numbers d.rules)
  pub scheduled : f.scheduled ≡ map (is_scheduled d.nodes) (numbers d.rules)
  pub made : f.made ≡ by_register d (made d)
  pub own : f.own ≡ by_register d (own_writes d)
  pub order : IsOrder d.nodes (order_of f)
