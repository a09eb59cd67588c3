use Rattle.std.proofs.Common.{◌≡◌, length, take}
use Rattle.std.specs.Prelude.{vec_capacity}
use Rattle.circuit_eval.proofs.word_sim.regs_of.Given as goal

abbrev pub invariant-loop-state : goal.invariant-loop-state
invariant-loop-state l = record { values : l.regs.items ≡ take l.state l.states; capacity : vec_capacity l.regs ≡ length l.states }
