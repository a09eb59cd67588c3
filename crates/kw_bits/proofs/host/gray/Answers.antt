use Rattle.std.proofs.Common.{◌/◌, rules}
use Rattle.std.proofs.Math.Nat.{div-le_self}
use Rattle.kw_bits.specs.Host.{value, answer, out_width}
use Rattle.kw_bits.proofs.Words.{xor_within, lower_within}
use Rattle.kw_bits.proofs.host.gray.Goals as goal

pub from_parts-requires : goal.from_parts-requires
from_parts-requires c =
    let x = c.args.x in
    let p = c.number.ensures.bits in
    rw (c.width.ensures.width, c.number.ensures.number, c.number-2.ensures.number)
    (xor_within x.width x.number (x.number / 2) p (lower_within x.width x.number (x.number / 2) p (div-le_self x.number 2)))

pub returns : goal.returns
unfolding value answer out_width
returns c = search rules
