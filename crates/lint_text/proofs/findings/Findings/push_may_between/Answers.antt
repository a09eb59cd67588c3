use Rattle.lint_text.proofs.Ranges.{flat_more}
use Rattle.lint_text.proofs.findings.Findings.push_may_between.Goals as goal

pub loop-register-preserved : goal.loop-register-preserved
loop-register-preserved c = flat_more _ c.loop-register.register c.args.notes.now c.loop-register.notes _ c.loop-register.invariant c.in_ok-push_may_note.ensures
