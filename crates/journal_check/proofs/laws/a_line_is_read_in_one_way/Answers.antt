use Rattle.journal_check.proofs.OneReading.{one_line}
use Rattle.journal_check.proofs.laws.a_line_is_read_in_one_way.Goals as goal

pub returns : goal.returns
returns c = one_line
