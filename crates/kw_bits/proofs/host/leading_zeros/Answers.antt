use Rattle.std.proofs.Common.{arith}
use Rattle.kw_bits.specs.Host.{value, answer, out_width}
use Rattle.kw_bits.proofs.Counts.{leading_zeros_of_word}
use Rattle.kw_bits.proofs.host.leading_zeros.Goals as goal

pub overflow_sub-number : goal.overflow_sub-number
overflow_sub-number c =
    rw (c.width-above.ensures.width, c.number.ensures.number)
    (let p = c.number.ensures.bits in
    omega (arith, leading_zeros_of_word c.args.x.width c.args.x.number p.no_wider p.in_range))

pub returns : goal.returns
unfolding value answer out_width
returns c =
    let p = c.number.ensures.bits in
    let e = leading_zeros_of_word c.args.x.width c.args.x.number p.no_wider p.in_range in
    grind arith
