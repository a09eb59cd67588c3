use Rattle.std.proofs.Common.{◌+◌, drop}
use Rattle.stim_report.specs.inner.Pages.{Leaves}
use Rattle.stim_report.specs.Report.{lines_from}
use Rattle.stim_report.specs.Shapes.{RowsFit}
use Rattle.stim_report.proofs.lines.push_lines.Given as goal

abbrev pub invariant-loop-number : goal.invariant-loop-number
invariant-loop-number l =
    record {
      left : Leaves l.fn.page (lines_from l.shape l.cycle l.rows) l.page (lines_from l.shape (l.cycle + l.number) (drop l.number l.rows));
      fit : RowsFit l.shape (drop l.number l.rows);
    }
