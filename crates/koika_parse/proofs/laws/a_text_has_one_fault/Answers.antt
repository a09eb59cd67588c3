use Rattle.koika_parse.proofs.OneFault.{one_fault}
use Rattle.koika_parse.proofs.laws.a_text_has_one_fault.Goals as goal

pub returns : goal.returns
returns c = one_fault
