use Rattle.std.proofs.Common.{length}
use Rattle.koika_lower.proofs.selecting.+range_of_all.Given as goal

abbrev pub decreases-range_of_all : goal.decreases-range_of_all
decreases-range_of_all l = length l.selections.now
