use Rattle.koika_lower.proofs.TwoLowerings.{lowerings_do_alike}
use Rattle.koika_lower.proofs.laws.lowerings_do_alike.Goals as goal

pub returns : goal.returns
returns c = lowerings_do_alike
