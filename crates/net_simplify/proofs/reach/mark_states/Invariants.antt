use Rattle.std.proofs.Common.{◌≡◌, map, take}
use Rattle.circuit_eval.specs.declared.circuit.StateWire.{StateWire}
use Rattle.net_simplify.specs.inner.Passes.{marked}
use Rattle.net_simplify.proofs.reach.mark_states.Given as goal

abbrev pub invariant-loop-wire : goal.invariant-loop-wire
invariant-loop-wire l = l.serves ≡ marked (map (λ (wire : StateWire). wire.next) (take l.wire-index l.states)) l.fn.serves
