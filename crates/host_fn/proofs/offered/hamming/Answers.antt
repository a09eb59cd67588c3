use Rattle.std.proofs.Common.{sym}
use Rattle.kw_bits.proofs.Halves.{hamming-joined}
use Rattle.host_fn.proofs.offered.hamming.Goals as goal

pub returns : goal.returns
returns c = sym (hamming-joined 6 c.args.x c.args.y c.requires.second)
