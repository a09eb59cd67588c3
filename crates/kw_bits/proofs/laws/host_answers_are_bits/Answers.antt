use Rattle.kw_bits.proofs.OperatorLaws.{host-HasWidth}
use Rattle.kw_bits.proofs.laws.host_answers_are_bits.Goals as goal

pub returns : goal.returns
returns c = host-HasWidth
