use Rattle.std.proofs.Common.{◌≤◌, ◌<◌, ◌+◌, ◌^◌, ℕ, drop, length}
use Rattle.stim_report.specs.Report.{lines_from}
use Rattle.stim_report.specs.Shapes.{RowsFit}
use Rattle.stim_report.proofs.room.room_of_lines.Given as goal

abbrev pub invariant-loop-row : goal.invariant-loop-row
invariant-loop-row l =
    record {
      room : (cycle : ℕ) → cycle + length l.fn.rows < 2 ^ 64 → length (lines_from l.shape cycle l.fn.rows) ≤ l.room + length (lines_from l.shape (cycle + l.row-index) (drop l.row-index l.fn.rows));
      fit : RowsFit l.shape (drop l.row-index l.fn.rows);
    }
