-- Notes of the weights and the depths that are counted.
use Rattle.std.specs.Prelude.{ℕ, ◌+◌, List, [], ◌∷◌}
use Rattle.koika_check.specs.declared.measure.Measure.{Measure}
use Rattle.lint_text.specs.declared.note.Note.{Note}
use Rattle.lint_text.specs.declared.note.Note.TheVariants as note

-- those of rules, the first of them of this number
abbrev pub measures_from : (rule : ℕ) → List Measure → List Note
measures_from rule [] = []
measures_from rule (m ∷ measures) = note.Size rule m.weight m.depth ∷ measures_from (rule + 1) measures
