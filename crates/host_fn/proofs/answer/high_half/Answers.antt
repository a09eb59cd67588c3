use Rattle.kw_bits.specs.Host.{high_half}
use Rattle.kw_bits.proofs.Halves.{high_half-lt}
use Rattle.host_fn.proofs.answer.high_half.Goals as goal

pub returns-clause-below : goal.returns-clause-below
unfolding high_half
returns-clause-below c =
    let x = c.args.x in
    rw (c.number.ensures.number, c.width.ensures.width) (high_half-lt x.width x.number c.requires.even c.number.ensures.bits.in_range)
