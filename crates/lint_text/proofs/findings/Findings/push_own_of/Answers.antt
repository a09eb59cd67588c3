use Rattle.std.proofs.Common.{◌++◌, ◌∙◌, List, ap}
use Rattle.typed_core.specs.declared.access.Access.{Access}
use Rattle.lab_lint.specs.Rules.{has_any}
use Rattle.lint_text.specs.Notes.{note_if, own_note}
use Rattle.lint_text.specs.declared.note.Note.TheVariants as note
use Rattle.lint_text.proofs.Ranges.{flat_more}
use Rattle.lint_text.proofs.findings.Findings.push_own_of.Goals as goal

pub loop-register-preserved : goal.loop-register-preserved
loop-register-preserved c =
    let d = c.args.design.now in
    let rule = c.args.rule in
    let register = c.loop-register.register in
    flat_more (own_note d rule) register c.args.notes.now c.loop-register.notes _ c.loop-register.invariant
    (c.in_ok-push_own_note.ensures
    ∙ ap (λ (writes : List Access). c.loop-register.notes ++ note_if (has_any writes) (note.Own rule register writes)) c.own_writes-writes.ensures)
