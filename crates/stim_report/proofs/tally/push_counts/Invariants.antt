use Rattle.std.proofs.Common.{◌≡◌, ◌++◌, drop}
use Rattle.stim_report.specs.Summary.{fired_lines}
use Rattle.stim_report.proofs.tally.push_counts.Given as goal

abbrev pub invariant-loop-number : goal.invariant-loop-number
invariant-loop-number l = l.text ++ fired_lines (drop l.number l.rules) (drop l.number l.counts) ≡ l.fn.text ++ fired_lines l.rules l.counts
