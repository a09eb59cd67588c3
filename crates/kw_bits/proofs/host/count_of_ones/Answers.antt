use Rattle.std.proofs.Common.{arith}
use Rattle.kw_bits.proofs.Counts.{count_ones_within}
use Rattle.kw_bits.proofs.host.count_of_ones.Goals as goal

pub from_parts-requires : goal.from_parts-requires
from_parts-requires c = count_ones_within 12 c.args.word (omega arith) c.requires
