use Rattle.attempt_log.proofs.Commits.{never_stale, stale_reads_differ}
use Rattle.attempt_log.proofs.laws.a_stale_read_was_made_on_other_registers.Goals as goal

pub returns-clause-never : goal.returns-clause-never
returns-clause-never c = never_stale

pub returns-clause-differ : goal.returns-clause-differ
returns-clause-differ c = stale_reads_differ
