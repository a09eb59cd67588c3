use Rattle.std.proofs.Common.{◌≡◌, map, take}
use Rattle.circuit_eval.specs.Programs.{word_at}
use Rattle.circuit_eval.proofs.state_words.take_words.Given as goal

abbrev pub invariant-loop-state : goal.invariant-loop-state
invariant-loop-state l = take l.state l.states ≡ map (λ wire. word_at l.words wire.next) (take l.state l.wires)
