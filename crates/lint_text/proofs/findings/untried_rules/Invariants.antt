use Rattle.lint_text.proofs.Orders.{UntriedTo}
use Rattle.lint_text.proofs.findings.untried_rules.Given as goal

abbrev pub invariant-loop-rule : goal.invariant-loop-rule
invariant-loop-rule l = UntriedTo l.fn.design.nodes l.rule l.flags
