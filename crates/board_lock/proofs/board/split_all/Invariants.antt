use Rattle.std.proofs.Common.{◌≡◌, ◌≤◌, ◌<◌, ℕ, [], length}
use Rattle.std.specs.Prelude.{slice_index_or}
use Rattle.std.specs.Vec.{vec_capacity}
use Rattle.board_lock.specs.inner.Work.{SplitBy}
use Rattle.board_lock.specs.inner.Work.{IsReady}
use Rattle.board_lock.proofs.board.split_all.Given as goal

abbrev pub invariant-loop-number : goal.invariant-loop-number
invariant-loop-number g l =
    record {
      table : l.place.table_id ≡ l.fn.place.table_id;
      carried : l.place.me.1 ≡ [];
      split : SplitBy l.number l.fn.place.me.0 l.place.me.0;
      room : l.workers ≤ vec_capacity l.seats;
      count : length l.seats.items ≡ l.number;
      each : (i : ℕ) (d : _) → i < l.number → IsReady l.fn.place.table_id l.fn.place.me.0.seen l.fn.place.me.0.opened i (slice_index_or l.seats.items i d).seat.number (slice_index_or l.seats.items i d).seat.place.table_id (slice_index_or l.seats.items i d).seat.place.me.0;
    }
