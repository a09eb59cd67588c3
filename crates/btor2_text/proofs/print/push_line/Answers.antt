use Rattle.std.proofs.Common.{append_assoc, rules}
use Rattle.btor2_text.proofs.print.push_line.Goals as goal

pub returns : goal.returns
returns c = search (rules, append_assoc)
