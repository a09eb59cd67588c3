use Rattle.std.proofs.Common.{◌≡◌, ◌-◌, ◌≤◌}
use Rattle.typed_core.specs.Widths.{HaveWidths, register_widths}
use Rattle.one_rule.specs.Stimulus.{inputs_of}
use Rattle.lab_top.specs.inner.Registers.{registers_after}
use Rattle.lab_top.proofs.runs.registers_after.Given as goal

-- the registers that the cycles so far leave
abbrev pub invariant-loop-at : goal.invariant-loop-at
invariant-loop-at l =
    record {
      left : l.regs ≡ registers_after l.design (inputs_of l.stimulus) l.at;
      fits : HaveWidths (register_widths l.design) l.regs;
      within : l.at ≤ l.cycles;
    }

abbrev pub decreases-loop-at : goal.decreases-loop-at
decreases-loop-at l = l.cycles - l.at
