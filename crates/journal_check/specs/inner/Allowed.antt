-- The ranges of the numbers on a line: of at most 8 workers, of workers that there were, of cycles that a run may
-- have; and the two values of a stale read differ.
use Rattle.std.specs.Prelude.{◌≢◌, ℕ, ◌≤◌}
use Rattle.attempt_log.specs.declared.entry.Entry.TheVariants as entry
use Rattle.attempt_log.specs.declared.entry.Settled.{Settled}
use Rattle.attempt_log.specs.declared.entry.Settled.TheVariants as settled
use Rattle.board_core.specs.declared.kept.TheConstants.{MAX_CYCLES}
use Rattle.journal_check.specs.declared.line.JournalLine.{JournalLine}
use Rattle.journal_check.specs.declared.line.JournalLine.TheVariants as line

abbrev pub Differs : Settled → Type 0
Differs (settled.Committed cycle rule) = Unit {0}
Differs (settled.Skipped cycle rule why) = Unit {0}
Differs (settled.Stale cycle rule read) = read.held ≢ read.now
Differs (settled.CycleClosed cycle) = Unit {0}
Differs (settled.Waiting cycle rule) = Unit {0}
Differs settled.Finished = Unit {0}

abbrev pub IsAllowed : ℕ → JournalLine → Type 0
IsAllowed workers (line.Begins count) = (1 ≤ count) × (count ≤ 8)
IsAllowed workers (line.Batch from to) = Unit {0}
IsAllowed workers (line.Entry (entry.Submit worker cycle rule inputs events ending answer)) = (worker ≤ workers) × (1 ≤ cycle) × (cycle ≤ MAX_CYCLES)
IsAllowed workers (line.Entry (entry.Settle worker answer)) = (worker ≤ workers) × Differs answer
