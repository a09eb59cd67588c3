use Rattle.lint_text.proofs.Ranges.{flat_more}
use Rattle.lint_text.proofs.findings.Findings.push_may.Goals as goal

pub loop-earlier-preserved : goal.loop-earlier-preserved
loop-earlier-preserved c = flat_more _ c.loop-earlier.earlier c.args.notes.now c.loop-earlier.notes _ c.loop-earlier.invariant c.in_ok-push_may_if_preceded.ensures
