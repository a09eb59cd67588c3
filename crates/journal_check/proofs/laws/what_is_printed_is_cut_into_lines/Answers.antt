use Rattle.journal_check.proofs.PrintedLines.{printed_is_cut}
use Rattle.journal_check.proofs.laws.what_is_printed_is_cut_into_lines.Goals as goal

pub returns : goal.returns
returns c = printed_is_cut
