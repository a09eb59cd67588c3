use Rattle.std.proofs.Common.{◌≡◌, ◌≤◌, ◌<◌, ◌+◌, ℕ, [], length, reverse}
use Rattle.std.specs.Prelude.{slice_index_or}
use Rattle.std.specs.Vec.{vec_capacity}
use Rattle.board_lock.specs.inner.Work.{JoinedFrom}
use Rattle.board_lock.specs.inner.Work.{HasWorked}
use Rattle.board_lock.proofs.board.join_all.Given as goal

abbrev pub invariant-loop-seat : goal.invariant-loop-seat
invariant-loop-seat g l =
    record {
      table : l.place.table_id ≡ l.fn.place.table_id;
      carried : l.place.me.1 ≡ [];
      count : length l.reports.items + length l.seats.items ≡ length l.fn.seats.items;
      room : length l.fn.seats.items ≤ vec_capacity l.reports;
      joined : JoinedFrom l.fn.turns (length l.seats.items) (length l.fn.seats.items) l.fn.place.me.0 l.place.me.0 (reverse l.reports.items);
      each : (i : ℕ) (d : _) → i < length l.seats.items → HasWorked l.fn.turns l.fn.place.table_id l.fn.place.me.0.part.was l.fn.place.me.0.opened i (slice_index_or l.seats.items i d).seat.number (slice_index_or l.seats.items i d).seat.counts.ended (slice_index_or l.seats.items i d).seat.place.table_id (slice_index_or l.seats.items i d).seat.place.me.0 (slice_index_or l.seats.items i d).report;
    }

abbrev pub decreases-loop-seat : goal.decreases-loop-seat
decreases-loop-seat g l = goal.left-loop-seat g l

abbrev pub ghosts-join : goal.ghosts-join
ghosts-join g a = record { begun = a.place.now.me.0.opened }
