use Rattle.lint_text.proofs.Orders.{PrecedeTo}
use Rattle.lint_text.proofs.findings.all_preceded.Given as goal

abbrev pub invariant-loop-earlier : goal.invariant-loop-earlier
invariant-loop-earlier l = PrecedeTo l.fn.design.nodes l.earlier l.all
