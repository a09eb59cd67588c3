use Rattle.koika_top.proofs.Answered.{some_recheck}
use Rattle.koika_top.proofs.laws.some_recheck.Goals as goal

pub returns : goal.returns
returns c = some_recheck
