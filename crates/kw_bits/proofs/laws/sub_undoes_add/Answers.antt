use Rattle.kw_bits.proofs.OperatorLaws.{sub-add}
use Rattle.kw_bits.proofs.laws.sub_undoes_add.Goals as goal

pub returns : goal.returns
returns c = sub-add
