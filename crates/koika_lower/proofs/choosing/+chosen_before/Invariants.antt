use Rattle.std.proofs.Common.{length}
use Rattle.koika_lower.proofs.choosing.+chosen_before.Given as goal

abbrev pub decreases-chosen_before : goal.decreases-chosen_before
decreases-chosen_before l = length l.conditions
