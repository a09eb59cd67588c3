use Rattle.koika_top.proofs.OneAnswer as each
use Rattle.koika_top.proofs.laws.journaled_or_refused.Goals as goal

pub returns : goal.returns
returns c = λ hosts cycles workers source design stimulus fault has refused. each.journaled_or_refused hosts source cycles workers fault design stimulus has refused
