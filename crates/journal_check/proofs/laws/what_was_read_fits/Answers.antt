use Rattle.journal_check.proofs.BatchesFit.{journal_fits, rule_within}
use Rattle.journal_check.proofs.laws.what_was_read_fits.Goals as goal

pub returns-clause-batches : goal.returns-clause-batches
returns-clause-batches c = journal_fits

pub returns-clause-rule : goal.returns-clause-rule
returns-clause-rule c = rule_within
