use Rattle.koika_top.proofs.OneAnswer as each
use Rattle.koika_top.proofs.laws.spelled_or_refused.Goals as goal

pub returns : goal.returns
returns c = λ hosts source design stimulus fault spelled refused. each.spelled_or_refused hosts source fault design stimulus spelled refused
