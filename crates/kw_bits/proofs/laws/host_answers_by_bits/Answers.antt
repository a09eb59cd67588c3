use Rattle.kw_bits.proofs.OperatorLaws.{reverse-turns, leading_zeros-digits}
use Rattle.kw_bits.proofs.laws.host_answers_by_bits.Goals as goal

pub returns : goal.returns
returns c = record {
  reverse = reverse-turns;
  leading_zeros = leading_zeros-digits;
}
