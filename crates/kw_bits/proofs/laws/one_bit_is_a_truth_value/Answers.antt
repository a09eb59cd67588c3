use Rattle.kw_bits.proofs.OperatorLaws.{one_bit-flag, flag_logic}
use Rattle.kw_bits.proofs.laws.one_bit_is_a_truth_value.Goals as goal

pub returns : goal.returns
returns c = record {
  flag = one_bit-flag;
  logic = flag_logic;
}
