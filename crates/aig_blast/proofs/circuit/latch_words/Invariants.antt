use Rattle.std.proofs.Common.{◌≡◌, map, take}
use Rattle.aig_blast.specs.inner.Nodes.{latch_word}
use Rattle.aig_blast.proofs.circuit.latch_words.Given as goal

abbrev pub invariant-loop-wire : goal.invariant-loop-wire
invariant-loop-wire l = l.latches ≡ map (latch_word l.words) (take l.wire-index l.wires)
