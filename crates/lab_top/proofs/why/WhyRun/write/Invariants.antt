use Rattle.std.proofs.Common.{◌≡◌, ◌-◌, ◌≤◌, Ok}
use Rattle.std.specs.Arc.{arc_value}
use Rattle.one_rule.specs.Stimulus.{inputs_of}
use Rattle.front_end.specs.Streams.{stream}
use Rattle.front_end.specs.Told.{Told}
use Rattle.lab_top.specs.Runs.{why_text}
use Rattle.lab_top.specs.inner.Registers.{registers_after}
use Rattle.lab_top.proofs.why.WhyRun.write.Given as goal

-- the cycles before this one are written, and these are the registers that it finds
abbrev pub invariant-loop-cycle : goal.invariant-loop-cycle
invariant-loop-cycle g l =
    let it = l.self.lowered in
    record {
      low : l.self.cycle ≤ l.cycle;
      left : l.regs ≡ registers_after (arc_value it.design) (inputs_of (arc_value it.stimulus)) (l.cycle - 1);
      told : Told (why_text it.checked l.self.only (inputs_of (arc_value it.stimulus)) l.self.cycle (l.cycle - l.self.cycle)) (stream g.K.Sink.written g.K.Sink.faults l.fn.sink l.sink) (Ok tt);
    }
