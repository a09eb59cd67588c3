use Rattle.std.proofs.Common.{◌≡◌, ◌<◌, ℕ, length, take}
use Rattle.std.specs.Prelude.{◌||◌}
use Rattle.std.specs.List.{list_any}
use Rattle.lint_text.specs.Findings.{is_set}
use Rattle.lint_text.specs.Notes.{is_of}
use Rattle.lint_text.proofs.note.Use.mark_all.Given as goal

abbrev pub invariant-loop-occurrence : goal.invariant-loop-occurrence
invariant-loop-occurrence l = (length l.marks ≡ length l.fn.marks) × ((number : ℕ) → number < length l.fn.marks → is_set l.marks number ≡ (is_set l.fn.marks number || list_any (is_of l.fn.self number) (take l.occurrence-index l.occurrences)))
