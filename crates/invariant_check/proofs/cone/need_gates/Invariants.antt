use Rattle.std.proofs.Common.{◌≡◌, ◌+◌, ◌≤◌, drop, length}
use Rattle.invariant_check.specs.Cones.{with_gates}
use Rattle.invariant_check.proofs.cone.need_gates.Given as goal

-- the gates from the last one down to this number were looked at
abbrev pub invariant-loop-count : goal.invariant-loop-count
invariant-loop-count l =
    record {
      within : l.count ≤ length l.gates;
      needed : l.needed ≡ with_gates l.fn.needed (1 + l.sources + l.count) (drop l.count l.gates);
    }

abbrev pub decreases-loop-count : goal.decreases-loop-count
decreases-loop-count l = l.count
