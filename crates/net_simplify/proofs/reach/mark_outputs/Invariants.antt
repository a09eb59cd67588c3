use Rattle.std.proofs.Common.{◌≡◌, map, take}
use Rattle.circuit_eval.specs.declared.circuit.OutputWire.{OutputWire}
use Rattle.net_simplify.specs.inner.Passes.{marked}
use Rattle.net_simplify.proofs.reach.mark_outputs.Given as goal

abbrev pub invariant-loop-wire : goal.invariant-loop-wire
invariant-loop-wire l = l.serves ≡ marked (map (λ (wire : OutputWire). wire.id) (take l.wire-index l.outputs)) l.fn.serves
