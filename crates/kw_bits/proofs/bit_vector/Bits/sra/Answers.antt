use Rattle.kw_bits.proofs.Signs.{sra-low, sra-high}
use Rattle.kw_bits.proofs.bit_vector.Bits.sra.Goals as goal

pub returns-then-is_negative : goal.returns-then-is_negative
returns-then-is_negative c =
    let e = sra-high c.args.self c.args.b c.is_negative.ensures.bits.in_range c.if-is_negative.ensures.sign in
    cc

pub returns-else-is_negative : goal.returns-else-is_negative
returns-else-is_negative c =
    let e = sra-low c.args.self c.args.b c.is_negative.ensures.bits.in_range c.if-is_negative.ensures.sign in
    cc
