use Rattle.std.proofs.Common.{◌≡◌, map, nat_eq, take}
use Rattle.circuit_eval.specs.Programs.{word_at}
use Rattle.circuit_eval.proofs.word_sim.put_bits.Given as goal

abbrev pub invariant-loop-flag : goal.invariant-loop-flag
invariant-loop-flag l = take l.flag l.fired ≡ map (λ id. nat_eq (word_at l.words id) 1) (take l.flag l.nodes)
