use Rattle.std.proofs.Common.{◌≡◌, List, length, take}
use Rattle.kw_bits.specs.BitVector.{BitVector}
use Rattle.circuit_eval.specs.inner.Programs.{Keeps}
use Rattle.circuit_eval.specs.Run.{next_states}
use Rattle.circuit_eval.proofs.state_words.take_wides.Given as goal

-- the states so far have their next values
abbrev pub invariant-loop-state : goal.invariant-loop-state
invariant-loop-state l = record {
  count : length l.states ≡ length l.fn.states;
  so_far : (values : List BitVector) → Keeps l.net l.words l.wides values (length l.net) → take l.state l.states ≡ take l.state (next_states l.wires values);
}
