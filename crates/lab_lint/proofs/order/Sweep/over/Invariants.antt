use Rattle.lab_lint.proofs.Sweeping.{SweptTo}
use Rattle.lab_lint.proofs.order.Sweep.over.Given as goal

abbrev pub invariant-loop-number : goal.invariant-loop-number
invariant-loop-number l = SweptTo l.self l.nodes l.rule l.fn.marks l.number l.marks
