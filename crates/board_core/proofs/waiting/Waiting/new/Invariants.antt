use Rattle.std.proofs.Common.{◌≡◌, replicate, None}
use Rattle.std.specs.Prelude.{vec_capacity}
use Rattle.board_core.proofs.waiting.Waiting.new.Given as goal

abbrev pub invariant-loop : goal.invariant-loop
invariant-loop l = record { items : l.attempts.items ≡ replicate l.counter None; capacity : vec_capacity l.attempts ≡ l.rules }
