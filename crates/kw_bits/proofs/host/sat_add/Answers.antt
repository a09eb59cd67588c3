use Rattle.std.proofs.Common.{rules}
use Rattle.kw_bits.specs.Host.{value, answer, out_width}
use Rattle.kw_bits.proofs.host.sat_add.Goals as goal

pub returns : goal.returns
unfolding value answer out_width
returns c = search rules
