use Rattle.kw_bits.specs.Host.{low_half}
use Rattle.kw_bits.proofs.Halves.{halves_within}
use Rattle.kw_bits.proofs.host.low_half.Goals as goal

pub returns-clause-small : goal.returns-clause-small
unfolding low_half
returns-clause-small c =
    let x = c.args.x in
    rw (c.number-2.ensures.number, c.low_bits.ensures, c.number.ensures.number, c.width.ensures.width)
    (halves_within x.width x.number c.requires.most c.requires.even c.number.ensures.bits.in_range).1
