use Rattle.std.proofs.Common.{rules}
use Rattle.kw_bits.specs.Host.{answer}
use Rattle.kw_bits.proofs.Halves.{high_half-joined, low_half-joined}
use Rattle.host_fn.proofs.offered.sat_add.Goals as goal

pub returns : goal.returns
unfolding answer
returns c = rw (high_half-joined 6 c.args.x c.args.y c.requires.second, low_half-joined 6 c.args.x c.args.y c.requires.second) (search rules)
