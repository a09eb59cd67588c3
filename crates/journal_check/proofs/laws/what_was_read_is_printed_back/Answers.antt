use Rattle.journal_check.proofs.OneJournal.{printed_back}
use Rattle.journal_check.proofs.laws.what_was_read_is_printed_back.Goals as goal

pub returns : goal.returns
returns c = printed_back
