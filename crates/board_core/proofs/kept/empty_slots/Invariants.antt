use Rattle.std.proofs.Common.{◌≡◌, replicate, None}
use Rattle.std.specs.Prelude.{vec_capacity}
use Rattle.board_core.proofs.kept.empty_slots.Given as goal

abbrev pub invariant-loop : goal.invariant-loop
invariant-loop l = record { items : l.slots.items ≡ replicate l.counter (replicate l.rules None); capacity : vec_capacity l.slots ≡ l.cycles }
