use Rattle.std.proofs.Common.{◌≡◌}
use Rattle.std.specs.Arc.{arc_value}
use Rattle.journal_check.proofs.Replays.{IsSoFar}
use Rattle.journal_check.proofs.replay.make_entries.Given as goal

-- the entries so far are a legal history, which left the core
abbrev pub invariant-loop-number : goal.invariant-loop-number
invariant-loop-number l =
    record {
      items : l.entry-items ≡ l.batch.entries;
      so_far : IsSoFar (arc_value l.workload.design) l.fn.core.opening l.entry-items l.number l.core;
    }
