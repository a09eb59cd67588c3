use Rattle.std.proofs.Common.{◌≡◌, refl}
use Rattle.kw_bits.specs.Host.{value, answer, out_width, number_of_bits, interleaved_bit}
use Rattle.kw_bits.proofs.Halves.{interleaved_bit-lt}
use Rattle.kw_bits.proofs.Reversal.{number_of_bits-lt}
use Rattle.kw_bits.proofs.host.morton.Goals as goal

pub from_parts-requires : goal.from_parts-requires
from_parts-requires c =
    let p = c.width.ensures.bits in
    let number : c.from.result ≡ number_of_bits c.args.x.width (interleaved_bit c.high_half.result c.low_half.result) = rw (c.from.ensures, c.interleaved.ensures, c.width-2.ensures.width) refl in
    rw (c.width.ensures.width, number)
    (record { some_bit = p.some_bit; no_wider = p.no_wider; in_range = number_of_bits-lt c.args.x.width _ (interleaved_bit-lt c.high_half.result c.low_half.result) })

pub returns : goal.returns
unfolding value answer out_width
returns c =
    rw (c.from_parts.ensures, c.width.ensures.width, c.from.ensures, c.interleaved.ensures, c.width-2.ensures.width, c.high_half.ensures.half, c.low_half.ensures.half) refl
