use Rattle.kw_bits.proofs.OperatorLaws.{redand-HasWidth, redor-HasWidth, redxor-HasWidth, eq_bits-HasWidth, ult-HasWidth, ulte-HasWidth, slt-HasWidth, slte-HasWidth}
use Rattle.kw_bits.proofs.laws.tests_make_one_bit.Goals as goal

pub returns : goal.returns
returns c = record {
  redand = redand-HasWidth;
  redor = redor-HasWidth;
  redxor = redxor-HasWidth;
  eq_bits = eq_bits-HasWidth;
  ult = ult-HasWidth;
  ulte = ulte-HasWidth;
  slt = slt-HasWidth;
  slte = slte-HasWidth;
}
