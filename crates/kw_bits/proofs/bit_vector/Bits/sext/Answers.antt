use Rattle.kw_bits.proofs.Signs.{sext-low, sext-high}
use Rattle.kw_bits.proofs.bit_vector.Bits.sext.Goals as goal

pub returns-then-is_negative : goal.returns-then-is_negative
returns-then-is_negative c =
    let e = sext-high c.args.self c.args.width c.is_negative.ensures.bits.in_range c.requires.wider c.if-is_negative.ensures.sign in
    cc

pub returns-else-is_negative : goal.returns-else-is_negative
returns-else-is_negative c =
    let e = sext-low c.args.self c.args.width c.is_negative.ensures.bits.in_range c.requires.wider c.if-is_negative.ensures.sign in
    cc
