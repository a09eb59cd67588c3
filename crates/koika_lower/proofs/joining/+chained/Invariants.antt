use Rattle.std.proofs.Common.{length}
use Rattle.koika_lower.proofs.joining.+chained.Given as goal

abbrev pub decreases-chained : goal.decreases-chained
decreases-chained l = length l.operators.now
