use Rattle.std.proofs.Common.{◌≡◌, length}
use Rattle.std.specs.Arc.{arc_value}
use Rattle.attempt_log.specs.Past.{HasPlaces}
use Rattle.library_tests.proofs.attempts.commit_all.Given as goal

abbrev pub invariant-loop-number : goal.invariant-loop-number
invariant-loop-number g l =
    record {
      places : HasPlaces (length (arc_value l.design).regs) l.past;
      count : l.past.count ≡ l.number;
    }
