use Rattle.kw_bits.proofs.Words.{joined, joined_within}
use Rattle.kw_bits.proofs.bit_vector.Bits.concat.Goals as goal

pub from_parts-requires : goal.from_parts-requires
from_parts-requires c =
    let a = c.args.self in
    let b = c.args.low in
    let high = c.width.ensures.bits in
    let low = c.width-2.ensures.bits in
    rw (c.width.ensures.width, c.width-2.ensures.width, c.width-3.ensures.width, c.number.ensures.number, c.number-2.ensures.number, joined a.width b.width a.number b.number high low c.requires)
    (joined_within a.width b.width a.number b.number high low c.requires)
