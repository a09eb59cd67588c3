use Rattle.kw_bits.proofs.OperatorLaws.{and-HasWidth, or-HasWidth, xor-HasWidth, add-HasWidth, sub-HasWidth, mul-HasWidth, sll-HasWidth, srl-HasWidth, sra-HasWidth}
use Rattle.kw_bits.proofs.laws.common_width_is_kept.Goals as goal

pub returns : goal.returns
returns c = record {
  and = and-HasWidth;
  or = or-HasWidth;
  xor = xor-HasWidth;
  add = add-HasWidth;
  sub = sub-HasWidth;
  mul = mul-HasWidth;
  sll = sll-HasWidth;
  srl = srl-HasWidth;
  sra = sra-HasWidth;
}
