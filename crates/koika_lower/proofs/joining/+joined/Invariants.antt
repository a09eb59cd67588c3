use Rattle.std.proofs.Common.{length}
use Rattle.koika_lower.proofs.joining.+joined.Given as goal

abbrev pub decreases-joined : goal.decreases-joined
decreases-joined l = length l.operands
