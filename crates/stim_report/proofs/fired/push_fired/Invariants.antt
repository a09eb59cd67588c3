use Rattle.std.proofs.Common.{drop}
use Rattle.stim_report.specs.inner.Pages.{Leaves}
use Rattle.stim_report.specs.Report.{fired_names, listed}
use Rattle.stim_report.specs.inner.Steps.{rest_listed}
use Rattle.stim_report.proofs.fired.push_fired.Given as goal

abbrev pub invariant-loop-number : goal.invariant-loop-number
invariant-loop-number l =
    Leaves l.fn.page (listed (fired_names l.rules l.fired)) l.page (rest_listed l.is_first (fired_names (drop l.number l.rules) (drop l.number l.fired)))
