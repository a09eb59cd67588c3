use Rattle.std.proofs.Common.{drop}
use Rattle.stim_report.specs.inner.Pages.{Leaves}
use Rattle.stim_report.specs.Report.{registers_text}
use Rattle.stim_report.proofs.registers.push_registers.Given as goal

abbrev pub invariant-loop-number : goal.invariant-loop-number
invariant-loop-number l = Leaves l.fn.page (registers_text l.registers l.values) l.page (registers_text (drop l.number l.registers) (drop l.number l.values))
