use Rattle.stim_report.proofs.LinesInTurn.{line_left, rows_behind}
use Rattle.stim_report.proofs.Pages.{room_first, room_left, goes_on}
use Rattle.stim_report.proofs.lines.push_lines.Goals as goal

pub push_line-requires-clause-room : goal.push_line-requires-clause-room
push_line-requires-clause-room c =
    let l = c.loop-number in
    room_first _ (room_left c.requires.room (line_left c.args.shape.now c.args.cycle c.args.rows.now l.number c.index-rows-number.result c.loop-number-test.true c.index-rows-number.is l.invariant.left))

pub loop-number-preserved : goal.loop-number-preserved
loop-number-preserved c =
    let l = c.loop-number in
    record {
      left = goes_on (line_left c.args.shape.now c.args.cycle c.args.rows.now l.number c.index-rows-number.result c.loop-number-test.true c.index-rows-number.is l.invariant.left) c.push_line.ensures;
      fit = rows_behind c.args.shape.now c.args.rows.now l.number c.index-rows-number.result c.loop-number-test.true l.invariant.fit;
    }
