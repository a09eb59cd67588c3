use Rattle.std.proofs.Common.{◌≡◌, take}
use Rattle.aig_blast.specs.inner.Nodes.{output_bits}
use Rattle.aig_blast.proofs.circuit.output_bits.Given as goal

abbrev pub invariant-loop-wire : goal.invariant-loop-wire
invariant-loop-wire l = l.outputs ≡ output_bits l.words (take l.wire-index l.wires)
