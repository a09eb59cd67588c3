use Rattle.std.proofs.Common.{ap}
use Rattle.kw_bits.proofs.Masks.{and_ones}
use Rattle.kw_bits.proofs.bit_vector.Bits.low_bits.Goals as goal

pub returns : goal.returns
returns c =
    ap (λ n. record { width = c.args.width; number = n }) (and_ones c.args.word c.args.width c.mask.result c.mask.ensures)
