use Rattle.kw_bits.proofs.OperatorLaws.{concat-HasWidth, slice-HasWidth, zext-HasWidth, sext-HasWidth}
use Rattle.kw_bits.proofs.laws.width_is_changed.Goals as goal

pub returns : goal.returns
returns c = record {
  concat = concat-HasWidth;
  slice = slice-HasWidth;
  zext = zext-HasWidth;
  sext = sext-HasWidth;
}
