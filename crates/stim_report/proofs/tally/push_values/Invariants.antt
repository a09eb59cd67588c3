use Rattle.std.proofs.Common.{◌≡◌, ◌++◌, drop}
use Rattle.stim_report.specs.Summary.{value_lines}
use Rattle.stim_report.proofs.tally.push_values.Given as goal

abbrev pub invariant-loop-number : goal.invariant-loop-number
invariant-loop-number l = l.text ++ value_lines (drop l.number l.registers) (drop l.number l.values) ≡ l.fn.text ++ value_lines l.registers l.values
