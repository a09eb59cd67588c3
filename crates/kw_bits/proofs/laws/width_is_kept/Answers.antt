use Rattle.kw_bits.proofs.OperatorLaws.{not-HasWidth, neg-HasWidth}
use Rattle.kw_bits.proofs.laws.width_is_kept.Goals as goal

pub returns : goal.returns
returns c = record {
  not = not-HasWidth;
  neg = neg-HasWidth;
}
