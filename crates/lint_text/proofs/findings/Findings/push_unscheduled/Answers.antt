use Rattle.std.proofs.Common.{◌++◌, ◌∙◌, Bool, not, ap}
use Rattle.lint_text.specs.Notes.{note_if, unscheduled_note}
use Rattle.lint_text.specs.declared.note.Note.TheVariants as note
use Rattle.lint_text.proofs.Ranges.{flat_more}
use Rattle.lint_text.proofs.findings.Findings.push_unscheduled.Goals as goal

pub loop-rule-preserved : goal.loop-rule-preserved
loop-rule-preserved c =
    let d = c.args.design.now in
    let rule = c.loop-rule.rule in
    flat_more (unscheduled_note d) rule c.args.notes.now c.loop-rule.notes _ c.loop-rule.invariant
    (c.in_ok-push_if.ensures ∙ ap (λ (b : Bool). c.loop-rule.notes ++ note_if (not b) (note.Unscheduled rule)) c.is_scheduled.ensures)
