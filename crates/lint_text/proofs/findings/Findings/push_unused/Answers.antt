use Rattle.std.proofs.Common.{◌++◌, ◌∙◌, Bool, not, ap}
use Rattle.lint_text.specs.Notes.{note_if, unused_note}
use Rattle.lint_text.specs.declared.note.Note.TheVariants as note
use Rattle.lint_text.proofs.Ranges.{flat_more}
use Rattle.lint_text.proofs.findings.Findings.push_unused.Goals as goal

pub loop-number-preserved : goal.loop-number-preserved
loop-number-preserved c =
    let d = c.args.design.now in
    let kind = c.args.of in
    let number = c.loop-number.number in
    flat_more (unused_note d kind) number c.args.notes.now c.loop-number.notes _ c.loop-number.invariant
    (c.in_ok-push_if.ensures
    ∙ ap (λ (b : Bool). c.loop-number.notes ++ note_if (not b) (note.Unused kind number)) (c.is_set.ensures ∙ c.in_ok-used.ensures number c.loop-number-test.true))
