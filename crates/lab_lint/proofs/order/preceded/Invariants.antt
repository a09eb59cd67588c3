use Rattle.lab_lint.proofs.Preceding.{RowTo}
use Rattle.lab_lint.proofs.order.preceded.Given as goal

abbrev pub invariant-loop-number : goal.invariant-loop-number
invariant-loop-number l = RowTo l.nodes l.marks l.rules l.number l.may
