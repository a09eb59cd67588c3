use Rattle.std.proofs.Common.{◌≡◌, ◌++◌, take}
use Rattle.std.specs.List.{flat_map}
use Rattle.lint_text.specs.Text.{note_line}
use Rattle.lint_text.proofs.shown.push_notes.Given as goal

abbrev pub invariant-loop-note : goal.invariant-loop-note
invariant-loop-note l = l.text ≡ l.fn.text ++ flat_map (note_line l.design l.places) (take l.note-index l.notes)
