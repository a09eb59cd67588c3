use Rattle.std.proofs.Common.{◌≡◌, ◌+◌, length, reverse}
use Rattle.std.specs.List.{AllByRecursion}
use Rattle.std.specs.Prelude.{vec_capacity}
use Rattle.board_core.specs.Kept.{EventFits}
use Rattle.board_core.proofs.Runs.{Goes}
use Rattle.board_core.proofs.board.Core.run_events.Given as goal

-- the events that are left, from their end, go on to the run of all
abbrev pub invariant-loop-event : goal.invariant-loop-event
invariant-loop-event l =
    record {
      goes : Goes l.fn.self l.fn.events.items l.self l.answers.items (reverse l.events.items);
      fits : AllByRecursion (EventFits l.fn.self.opening) (reverse l.events.items);
      opening : l.self.opening ≡ l.fn.self.opening;
      room : length l.answers.items + length l.events.items ≡ vec_capacity l.answers;
    }

abbrev pub decreases-loop-event : goal.decreases-loop-event
decreases-loop-event l = length l.events.items
