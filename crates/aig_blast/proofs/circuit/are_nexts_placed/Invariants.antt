use Rattle.std.proofs.Common.{take, All}
use Rattle.circuit_eval.specs.declared.circuit.StateWire.{StateWire}
use Rattle.aig_blast.specs.inner.Nodes.{word_at}
use Rattle.aig_blast.specs.inner.Trims.{IsPlaced}
use Rattle.aig_blast.proofs.circuit.are_nexts_placed.Given as goal

abbrev pub invariant-loop-wire : goal.invariant-loop-wire
invariant-loop-wire l = All (λ (wire : StateWire). All (IsPlaced l.places) (word_at l.words wire.next)) (take l.wire-index l.wires)
