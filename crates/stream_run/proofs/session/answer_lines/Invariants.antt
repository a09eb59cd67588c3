use Rattle.std.proofs.Common.{◌≡◌, ◌-◌, ◌≤◌}
use Rattle.std.specs.Arc.{arc_value}
use Rattle.typed_core.specs.Widths.{HaveWidths, register_widths}
use Rattle.stream_run.specs.inner.Reading.{to_come}
use Rattle.stream_run.specs.inner.Telling.{place_of}
use Rattle.stream_run.proofs.Going.{Reached}
use Rattle.stream_run.proofs.session.answer_lines.Given as goal

-- the lines so far are answered
abbrev pub invariant-lines : goal.invariant-lines
invariant-lines g l =
    let source = g.S.Source in
    let sink = g.K.Sink in
    record {
      fits : HaveWidths (register_widths (arc_value l.lowered.design)) l.line_run.regs;
      reached : Reached l.lowered.checked (place_of l.fn.line_run) (place_of l.line_run) (to_come l.fn.reader (source.left l.fn.source)) (to_come l.reader (source.left l.source))
          (sink.written l.fn.sink) (sink.written l.sink);
      source_never_falls : source.faults l.fn.source ≤ source.faults l.source;
      never_falls : sink.faults l.fn.sink ≤ sink.faults l.sink;
    }

abbrev pub decreases-lines : goal.decreases-lines
decreases-lines g l = 16777217 - l.line_run.cycle
