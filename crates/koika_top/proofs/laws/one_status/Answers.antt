use Rattle.koika_top.proofs.OneOfWords.{one_status}
use Rattle.koika_top.proofs.laws.one_status.Goals as goal

pub returns : goal.returns
returns c = one_status
