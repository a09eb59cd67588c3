use Rattle.std.proofs.Common.{◌≡◌, length, All}
use Rattle.std.specs.Prelude.{vec_capacity}
use Rattle.board_core.specs.inner.Kept.{IsBlank}
use Rattle.board_core.proofs.kept.room.Given as goal

abbrev pub invariant-loop : goal.invariant-loop
invariant-loop l = record { blank : All (IsBlank l.design) l.blanks.items; count : length l.blanks.items ≡ l.counter; capacity : vec_capacity l.blanks ≡ l.fn.count }
