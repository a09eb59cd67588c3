use Rattle.std.proofs.Common.{length}
use Rattle.koika_lower.proofs.applying.+prefixed.Given as goal

abbrev pub decreases-prefixed : goal.decreases-prefixed
decreases-prefixed l = length l.operators.now
