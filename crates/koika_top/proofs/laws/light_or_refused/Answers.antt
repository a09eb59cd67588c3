use Rattle.koika_top.proofs.OneAnswer as each
use Rattle.koika_top.proofs.laws.light_or_refused.Goals as goal

pub returns : goal.returns
returns c = λ hosts source design stimulus fault spelled light refused. each.light_or_refused hosts source fault design stimulus spelled light refused
