-- What is found of a design, by number.
use Rattle.std.proofs.Common.{◌≡◌, ℕ, ◌<◌, false, List, length, map, ap, ◌∙◌}
use Rattle.std.specs.Prelude.{slice_index_or}
use Rattle.std.proofs.lemmas.List.FromFn.{length-map-range_with_len}
use Rattle.typed_core.specs.declared.access.Access.{Access}
use Rattle.koika_check.specs.declared.checked.Checked.{Checked}
use Rattle.lab_lint.specs.Occurrences.{rule_part}
use Rattle.lab_lint.specs.Order.{is_scheduled}
use Rattle.lab_lint.specs.Rules.{numbers}
use Rattle.lab_lint.specs.declared.occurrence.Occurrence.{Occurrence}
use Rattle.lint_text.specs.Findings.{AreFindings, by_register, is_set}
use Rattle.lint_text.specs.declared.findings.Findings.{Findings}
use Rattle.lint_text.proofs.Ranges.{at_number}

-- a list by numbers has an item for each
pub as_many : {X Y : Type 0} (f : ℕ → X) (xs : List Y) (found : List X) → found ≡ map f (numbers xs) → length found ≡ length xs
as_many f xs found is = ap length is ∙ length-map-range_with_len f 0 (length xs)

-- and the one of a number
pub item : {X Y : Type 0} (f : ℕ → X) (xs : List Y) (found : List X) (k : ℕ) (none : X) → found ≡ map f (numbers xs) → k < length xs
    → slice_index_or found k none ≡ f k
item {X} f xs found k none is inside = ap (λ (ys : List X). slice_index_or ys k none) is ∙ at_number f xs k none inside

module _ (d : Checked) (f : Findings) (found : AreFindings d f) where
  pub scheduled-at : (rule : ℕ) → rule < length d.rules → is_set f.scheduled rule ≡ is_scheduled d.nodes rule
  scheduled-at rule inside = item (is_scheduled d.nodes) d.rules f.scheduled rule false found.scheduled inside

  pub occurrences-at : (rule : ℕ) (none : List Occurrence) → rule < length d.rules → slice_index_or f.occurrences rule none ≡ (rule_part d rule).all
  occurrences-at rule none inside = item (λ (r : ℕ). (rule_part d r).all) d.rules f.occurrences rule none found.occurrences inside

-- the accesses of a rule and a register
pub row-at : (d : Checked) (accesses : (rule register : ℕ) → List Access) (table : List (List (List Access))) (rule : ℕ) (none : List (List Access))
    → table ≡ by_register d accesses → rule < length d.rules → slice_index_or table rule none ≡ map (accesses rule) (numbers d.registers)
row-at d accesses table rule none is inside = item (λ (r : ℕ). map (accesses r) (numbers d.registers)) d.rules table rule none is inside
