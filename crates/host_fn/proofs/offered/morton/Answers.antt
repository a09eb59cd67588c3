use Rattle.kw_bits.specs.Host.{answer}
use Rattle.kw_bits.proofs.Halves.{high_half-joined, low_half-joined}
use Rattle.host_fn.proofs.offered.morton.Goals as goal

pub returns : goal.returns
unfolding answer
returns c =
    rw (high_half-joined 6 c.args.x c.args.y c.requires.second, low_half-joined 6 c.args.x c.args.y c.requires.second) c.interleaved.ensures
