use Rattle.std.proofs.Common.{rules, arith}
use Rattle.std.proofs.lemmas.Nat.{xor_lt}
use Rattle.kw_bits.specs.Host.{value, answer, out_width}
use Rattle.kw_bits.proofs.host.hamming.Goals as goal

pub count_of_ones-requires : goal.count_of_ones-requires
count_of_ones-requires c =
    let h = c.high_half.ensures.small in
    let l = c.low_half.ensures.small in
    let below = xor_lt 6 c.high_half.result c.low_half.result h l in
    omega arith

pub returns : goal.returns
unfolding value answer out_width
returns c = search rules
