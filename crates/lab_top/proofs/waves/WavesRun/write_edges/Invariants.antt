use Rattle.std.proofs.Common.{◌≡◌, ◌-◌, ◌≤◌, Ok}
use Rattle.std.specs.Arc.{arc_value}
use Rattle.one_rule.specs.Stimulus.{inputs_of}
use Rattle.front_end.specs.Streams.{stream}
use Rattle.front_end.specs.Told.{Told}
use Rattle.lab_top.specs.inner.Registers.{registers_after}
use Rattle.lab_top.specs.inner.Waves.{HasTaken, edges_to}
use Rattle.lab_top.proofs.waves.WavesRun.write_edges.Given as goal

-- the cycles so far are taken and written, and these are the registers that they leave
abbrev pub invariant-loop-at : goal.invariant-loop-at
invariant-loop-at g l =
    let it = l.self.lowered in
    let inputs = inputs_of (arc_value it.stimulus) in
    record {
      left : l.regs ≡ registers_after (arc_value it.design) inputs l.at;
      taken : HasTaken it.checked inputs l.at l.waves;
      told : Told (edges_to it.checked inputs l.at) (stream g.K.Sink.written g.K.Sink.faults l.fn.sink l.sink) (Ok tt);
      within : l.at ≤ l.self.cycles;
    }

abbrev pub decreases-loop-at : goal.decreases-loop-at
decreases-loop-at g l = l.self.cycles - l.at
