use Rattle.std.proofs.Common.{◌≡◌, ◌++◌, drop}
use Rattle.stim_report.specs.Report.{registers_text}
use Rattle.lab_core.proofs.why.push_values.Given as goal

-- what is left to write
abbrev pub invariant-loop-number : goal.invariant-loop-number
invariant-loop-number l = l.text ++ registers_text (drop l.number l.named) (drop l.number l.values) ≡ l.fn.text ++ registers_text l.named l.values
