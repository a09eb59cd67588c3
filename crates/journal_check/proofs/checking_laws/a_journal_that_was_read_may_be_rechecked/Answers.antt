use Rattle.journal_check.proofs.ReadFits.{read_journals_fit}
use Rattle.journal_check.proofs.checking_laws.a_journal_that_was_read_may_be_rechecked.Goals as goal

pub returns : goal.returns
returns c = read_journals_fit
