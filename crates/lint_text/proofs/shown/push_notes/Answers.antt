use Rattle.std.proofs.Common.{◌++◌, ◌∙◌, ℕ, List, ap, append_assoc, sym, take}
use Rattle.std.specs.List.{flat_map}
use Rattle.lint_text.specs.Text.{note_line}
use Rattle.lint_text.proofs.Ranges.{flat_take}
use Rattle.lint_text.proofs.shown.push_notes.Goals as goal

pub loop-note-preserved : goal.loop-note-preserved
loop-note-preserved c =
    let f = note_line c.args.design.now c.args.places.now in
    let i = c.loop-note.note-index in
    let notes = c.args.notes.now in
    let x = c.note-item.result in
    c.in_ok-push_note.ensures ∙ ap (λ (text : List ℕ). text ++ f x) c.loop-note.invariant
    ∙ append_assoc c.args.text.now (flat_map f (take i notes)) (f x)
    ∙ ap (λ (text : List ℕ). c.args.text.now ++ text) (sym (flat_take f notes i x c.loop-note-test.true c.note-item.is))
