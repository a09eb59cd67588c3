use Rattle.std.proofs.Common.{◌≡◌, map, take}
use Rattle.circuit_eval.specs.declared.circuit.OutputWire.{OutputWire}
use Rattle.koika_top.proofs.text_circuit.names_of.Given as goal

abbrev pub invariant-loop-wire : goal.invariant-loop-wire
invariant-loop-wire l = l.names ≡ map (λ (wire : OutputWire). wire.name) (take l.wire-index l.wires)
