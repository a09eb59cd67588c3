use Rattle.std.proofs.Common.{◌≤◌, ◌+◌, drop, length}
use Rattle.stim_report.specs.Report.{fired_names, listed, more_names}
use Rattle.stim_report.proofs.room.room_of_fired.Given as goal

abbrev pub invariant-loop-number : goal.invariant-loop-number
invariant-loop-number l = length (listed (fired_names l.rules l.fired)) ≤ l.room + length (more_names (fired_names (drop l.number l.rules) (drop l.number l.fired)))
