use Rattle.koika_parse.proofs.OneFault.{no_fault}
use Rattle.koika_parse.proofs.laws.a_design_has_no_fault.Goals as goal

pub returns : goal.returns
returns c = no_fault
