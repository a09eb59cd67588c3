use Rattle.btor2_text.proofs.LinesOrFault.{lines_or_first_fault}
use Rattle.btor2_text.proofs.laws.a_text_has_lines_or_a_fault.Goals as goal

pub returns : goal.returns
returns c = lines_or_first_fault
