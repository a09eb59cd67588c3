use Rattle.koika_top.proofs.Answered.{some_aig}
use Rattle.koika_top.proofs.laws.some_aig.Goals as goal

pub returns : goal.returns
returns c = some_aig
