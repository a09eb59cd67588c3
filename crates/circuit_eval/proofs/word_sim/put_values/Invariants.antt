use Rattle.std.proofs.Common.{◌≡◌, length, take}
use Rattle.circuit_eval.proofs.word_sim.put_values.Given as goal

abbrev pub invariant-loop-state : goal.invariant-loop-state
invariant-loop-state l = (length l.room ≡ length l.states) × (take l.state l.room ≡ take l.state l.states)
