use Rattle.std.proofs.Common.{◌≡◌, List, length, take}
use Rattle.kw_bits.specs.BitVector.{BitVector}
use Rattle.circuit_eval.specs.inner.Programs.{Keeps}
use Rattle.circuit_eval.specs.Run.{outputs_in}
use Rattle.circuit_eval.proofs.word_sim.take_outputs.Given as goal

-- the outputs so far have their values
abbrev pub invariant-loop-output : goal.invariant-loop-output
invariant-loop-output l =
    (values : List BitVector) → Keeps l.net l.words l.wides values (length l.net) → take l.output l.outputs ≡ outputs_in (take l.output l.wires) values
