use Rattle.kw_bits.proofs.Words.{within_wider}
use Rattle.kw_bits.proofs.bit_vector.Bits.zext.Goals as goal

pub from_parts-requires : goal.from_parts-requires
from_parts-requires c =
    rw c.number.ensures.number
    (within_wider c.args.self.width c.args.width c.args.self.number c.number.ensures.bits c.requires.wider c.requires.most)
