use Rattle.stim_report.specs.inner.Pages.{Leaves}
use Rattle.stim_report.specs.Report.{hex_digits}
use Rattle.stim_report.proofs.registers.push_digits.Given as goal

-- the digits below the place are left
abbrev pub invariant-loop-place : goal.invariant-loop-place
invariant-loop-place l = Leaves l.fn.page (hex_digits l.fn.count l.fn.number) l.page (hex_digits l.place l.number)
