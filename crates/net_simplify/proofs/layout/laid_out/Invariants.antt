use Rattle.net_simplify.specs.inner.Passes.{LaysOut}
use Rattle.net_simplify.proofs.layout.laid_out.Given as goal

abbrev pub invariant-loop-id : goal.invariant-loop-id
invariant-loop-id l = LaysOut l.ops l.serves l.id l.net l.places.items
