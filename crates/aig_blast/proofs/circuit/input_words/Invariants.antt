use Rattle.std.proofs.Common.{◌≡◌, map, take}
use Rattle.aig_blast.specs.inner.Nodes.{input_word}
use Rattle.aig_blast.proofs.circuit.input_words.Given as goal

abbrev pub invariant-loop-wire : goal.invariant-loop-wire
invariant-loop-wire l = l.inputs ≡ map input_word (take l.wire-index l.wires)
