use Rattle.circuit_eval.specs.declared.circuit.OutputWire.{OutputWire}
use Rattle.net_simplify.proofs.Marking.{marked-more}
use Rattle.net_simplify.proofs.reach.mark_outputs.Goals as goal

pub loop-wire-preserved : goal.loop-wire-preserved
loop-wire-preserved c = marked-more (λ (wire : OutputWire). wire.id) c.args.outputs.now c.loop-wire.wire-index c.wire-item.result c.args.serves.now c.loop-wire.serves c.loop-wire-test.true c.wire-item.is c.loop-wire.invariant
