use Rattle.std.proofs.Common.{◌≡◌, ◌≤◌, take, count_by}
use Rattle.stim_report.specs.Summary.{has_fired}
use Rattle.stim_report.proofs.tally.count.Given as goal

abbrev pub invariant-loop-row : goal.invariant-loop-row
invariant-loop-row l = (l.count ≡ count_by (has_fired l.rule) (take l.row-index l.rows)) × (l.count ≤ l.row-index)
