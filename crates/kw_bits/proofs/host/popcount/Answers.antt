use Rattle.std.proofs.Common.{rules}
use Rattle.kw_bits.specs.Host.{value, answer, out_width}
use Rattle.kw_bits.proofs.Halves.{below_widest}
use Rattle.kw_bits.proofs.host.popcount.Goals as goal

pub count_of_ones-requires : goal.count_of_ones-requires
count_of_ones-requires c =
    rw c.number.ensures.number (below_widest c.args.x.width c.args.x.number c.requires c.number.ensures.bits.in_range)

pub returns : goal.returns
unfolding value answer out_width
returns c = search rules
