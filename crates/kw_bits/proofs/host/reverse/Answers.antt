use Rattle.std.proofs.Common.{arith, ap}
use Rattle.kw_bits.specs.Host.{value, answer, out_width}
use Rattle.kw_bits.proofs.Reversal.{reversed_word, reversed_within}
use Rattle.kw_bits.proofs.host.reverse.Goals as goal

pub from_parts-requires : goal.from_parts-requires
from_parts-requires c =
    let x = c.args.x in
    let p = c.number.ensures.bits in
    rw (c.width.ensures.width, c.width-2.ensures.width, c.reverse_bits-word.ensures, c.number.ensures.number)
    (reversed_within 16 x.width x.number (omega arith) p.some_bit p.no_wider)

pub returns : goal.returns
unfolding value answer out_width
returns c =
    let x = c.args.x in
    rw (c.from_parts.ensures, c.width.ensures.width, c.width-2.ensures.width, c.reverse_bits-word.ensures, c.number.ensures.number)
    (ap (λ n. record { width = x.width; number = n }) (reversed_word 16 x.width x.number (omega arith)))
