use Rattle.std.proofs.Common.{◌++◌, ◌∙◌, Bool, not, ap₂}
use Rattle.lint_text.specs.Notes.{note_if, register_notes}
use Rattle.lint_text.specs.declared.note.Note.TheVariants as note
use Rattle.lint_text.specs.declared.note.Use.TheVariants as uses
use Rattle.lint_text.proofs.Ranges.{flat_more}
use Rattle.lint_text.proofs.findings.Findings.push_registers.Goals as goal

pub loop-register-preserved : goal.loop-register-preserved
loop-register-preserved c =
    let d = c.args.design.now in
    let register = c.loop-register.register in
    let inside = c.loop-register-test.true in
    flat_more (register_notes d) register c.args.notes.now c.loop-register.notes _ c.loop-register.invariant
    (c.in_ok-push_register.ensures
    ∙ ap₂ (λ (a b : Bool). c.loop-register.notes ++ (note_if (not a) (note.Unused uses.Read register) ++ note_if (not b) (note.Unused uses.Write register)))
    (c.in_ok-read.ensures register inside) (c.in_ok-written.ensures register inside))
