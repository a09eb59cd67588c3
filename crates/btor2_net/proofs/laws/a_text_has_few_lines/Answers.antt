use Rattle.btor2_net.proofs.FewLines.{few-lines}
use Rattle.btor2_net.proofs.laws.a_text_has_few_lines.Goals as goal

pub returns : goal.returns
returns c = few-lines
