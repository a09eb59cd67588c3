use Rattle.std.proofs.Common.{◌-◌, ◌≤◌, Ok}
use Rattle.std.specs.Arc.{arc_value}
use Rattle.typed_core.specs.Widths.{HaveWidths, register_widths}
use Rattle.front_end.specs.Streams.{stream}
use Rattle.koika_top.proofs.JournalBatches.{Written}
use Rattle.koika_top.proofs.journal_run.JournalRun.write.Given as goal

-- the batches up to here were made and written
abbrev pub invariant-loop-from : goal.invariant-loop-from
invariant-loop-from g l =
    let run = l.self in
    let design = arc_value run.lowered.design in
    record {
      order : l.from ≤ run.cycles;
      wide : HaveWidths (register_widths design) l.regs;
      so_far : Written design (arc_value run.lowered.stimulus) run.cycles run.workers l.from l.regs (stream g.K.Sink.written g.K.Sink.faults l.fn.sink l.sink) (Ok tt);
    }

abbrev pub decreases-loop-from : goal.decreases-loop-from
decreases-loop-from g l = l.self.cycles - l.from
