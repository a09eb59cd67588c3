use Rattle.std.proofs.Common.{arith}
use Rattle.stim_report.proofs.LinesInTurn.{lines_bound, rows_behind}
use Rattle.stim_report.proofs.room.room_of_lines.Goals as goal

pub loop-row-preserved : goal.loop-row-preserved
loop-row-preserved c =
    let l = c.loop-row in
    record {
      room = λ cycle few. omega (
        arith,
        l.invariant.room cycle few,
        lines_bound c.args.shape.now cycle c.args.rows.now l.row-index c.row-item.result c.in_ok-registers.registers c.loop-row-test.true c.row-item.is few (λ values. rw (← c.as_slice.ensures) (c.in_ok-registers.ensures values)),
        c.in_ok-room.ensures.1,
        rw c.as_slice-rules.ensures at c.in_ok-room_of_line.ensures,
      );
      fit = rows_behind c.args.shape.now c.args.rows.now l.row-index c.row-item.result c.loop-row-test.true l.invariant.fit;
    }
