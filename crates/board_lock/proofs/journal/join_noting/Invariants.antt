use Rattle.std.proofs.Common.{◌≡◌, ◌≤◌, ◌<◌, ◌+◌, ℕ, [], length, reverse, true}
use Rattle.std.specs.Prelude.{slice_index_or}
use Rattle.std.specs.Vec.{vec_capacity}
use Rattle.board_lock.specs.inner.Work.{JoinedFrom}
use Rattle.board_lock.specs.inner.Receipts.{Noting}
use Rattle.board_lock.specs.inner.Work.{HasWorked}
use Rattle.board_lock.proofs.journal.join_noting.Given as goal

abbrev pub invariant-loop-noting : goal.invariant-loop-noting
invariant-loop-noting g l =
    record {
      table : l.place.table_id ≡ l.fn.place.table_id;
      carried : l.place.me.1 ≡ [];
      count : length l.reports.items + length l.seats.items ≡ length l.fn.seats.items;
      room : length l.fn.seats.items ≤ vec_capacity l.reports;
      lists_count : length l.lists.items + length l.seats.items ≡ length l.fn.seats.items;
      lists_room : length l.fn.seats.items ≤ vec_capacity l.lists;
      noting : l.whole ≡ true → Noting l.fn.place.me.0.opened (length l.seats.items) (reverse l.lists.items) l.place.me.0.part.dones;
      joined : JoinedFrom l.fn.turns (length l.seats.items) (length l.fn.seats.items) l.fn.place.me.0 l.place.me.0 (reverse l.reports.items);
      each : (i : ℕ) (d : _) → i < length l.seats.items → HasWorked l.fn.turns l.fn.place.table_id l.fn.place.me.0.part.was l.fn.place.me.0.opened i (slice_index_or l.seats.items i d).seat.seat.number (slice_index_or l.seats.items i d).seat.seat.counts.ended (slice_index_or l.seats.items i d).seat.seat.place.table_id (slice_index_or l.seats.items i d).seat.seat.place.me.0 (slice_index_or l.seats.items i d).report;
    }

abbrev pub decreases-loop-noting : goal.decreases-loop-noting
decreases-loop-noting g l = goal.left-loop-noting g l

abbrev pub ghosts-join : goal.ghosts-join
ghosts-join g a = record { begun = a.place.now.me.0.opened }
