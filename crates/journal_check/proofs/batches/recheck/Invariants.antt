use Rattle.std.proofs.Common.{◌≡◌}
use Rattle.std.specs.Arc.{arc_value}
use Rattle.journal_check.proofs.RunsOfBatches.{HasRechecked}
use Rattle.journal_check.proofs.batches.recheck.Given as goal

-- the batches so far are good, and left the rows so far
abbrev pub invariant-loop-batch : goal.invariant-loop-batch
invariant-loop-batch l =
    record {
      items : l.batch-items ≡ l.fn.journal.batches;
      so_far : HasRechecked (arc_value l.fn.design) (arc_value l.fn.stimulus) l.n l.fn.journal l.batch-index l.done.cycle l.done.rows;
    }
