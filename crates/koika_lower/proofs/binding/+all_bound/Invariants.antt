use Rattle.std.proofs.Common.{length}
use Rattle.koika_lower.proofs.binding.+all_bound.Given as goal

abbrev pub decreases-all_bound : goal.decreases-all_bound
decreases-all_bound l = length l.operands
