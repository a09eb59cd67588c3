use Rattle.circuit_eval.specs.declared.circuit.StateWire.{StateWire}
use Rattle.net_simplify.proofs.Marking.{marked-more}
use Rattle.net_simplify.proofs.reach.mark_states.Goals as goal

pub loop-wire-preserved : goal.loop-wire-preserved
loop-wire-preserved c = marked-more (λ (wire : StateWire). wire.next) c.args.states.now c.loop-wire.wire-index c.wire-item.result c.args.serves.now c.loop-wire.serves c.loop-wire-test.true c.wire-item.is c.loop-wire.invariant
