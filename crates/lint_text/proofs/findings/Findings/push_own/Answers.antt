use Rattle.lint_text.proofs.Ranges.{flat_more}
use Rattle.lint_text.proofs.findings.Findings.push_own.Goals as goal

pub loop-rule-preserved : goal.loop-rule-preserved
loop-rule-preserved c = flat_more _ c.loop-rule.rule c.args.notes.now c.loop-rule.notes _ c.loop-rule.invariant c.in_ok-push_own_if_scheduled.ensures
