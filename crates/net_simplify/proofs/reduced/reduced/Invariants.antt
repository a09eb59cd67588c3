use Rattle.net_simplify.specs.inner.Passes.{Reduces}
use Rattle.net_simplify.proofs.reduced.reduced.Given as goal

abbrev pub invariant-loop-op : goal.invariant-loop-op
invariant-loop-op l = Reduces l.ops l.op-index l.net l.places.items
