use Rattle.std.proofs.Common.{◌≡◌, ◌-◌, ◌≤◌, Ok}
use Rattle.front_end.specs.Streams.{stream}
use Rattle.koika_top.specs.inner.Telling.{HasRows, marks_in, shown_by, told_of}
use Rattle.front_end.specs.Told.{Told}
use Rattle.koika_top.proofs.tell.tell.Given as goal

-- what was told so far is what is told of the rows so far
abbrev pub invariant-loop-from : goal.invariant-loop-from
invariant-loop-from g l =
    let rows = g.E.Engine.rows_to l.fn.engine in
    record {
      kind : shown_by l.teller ≡ shown_by l.fn.teller;
      has : HasRows l.teller l.shape (marks_in l.fn.teller) (rows l.from);
      run : g.E.Engine.rows_to l.engine ≡ rows;
      at : g.E.Engine.at l.engine ≡ l.from;
      stands : g.E.Engine.stands l.engine;
      told : Told (told_of (shown_by l.fn.teller) l.shape (rows l.from)) (stream g.K.Sink.written g.K.Sink.faults l.fn.sink l.sink) (Ok tt);
      none : l.from ≡ 0 → l.cycles ≡ 0;
      order : l.from ≤ l.cycles;
    }

abbrev pub decreases-loop-from : goal.decreases-loop-from
decreases-loop-from g l = l.cycles - l.from
