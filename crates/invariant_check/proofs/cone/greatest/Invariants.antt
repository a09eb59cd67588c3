use Rattle.std.proofs.Common.{◌≡◌, ◌-◌, ◌≤◌, length}
use Rattle.invariant_check.specs.Cones.{greatest}
use Rattle.invariant_check.proofs.cone.greatest.Given as goal

abbrev pub invariant-loop-top : goal.invariant-loop-top
invariant-loop-top l =
    record {
      within : l.top ≤ length l.needed - 1;
      same : greatest l.needed l.top ≡ greatest l.needed (length l.needed - 1);
    }

abbrev pub decreases-loop-top : goal.decreases-loop-top
decreases-loop-top l = l.top
