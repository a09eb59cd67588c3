use Rattle.std.proofs.Common.{◌≡◌, drop}
use Rattle.typed_core.specs.Widths.{HaveWidths, register_widths}
use Rattle.one_rule.specs.Cycle.{fire, system_of, walk_of}
use Rattle.one_rule.specs.Walk.{walk_past}
use Rattle.one_rule.proofs.cycle.walk_of.Given as goal

-- the walk past the nodes that are left ends where the whole one does
abbrev pub invariant-loop-number : goal.invariant-loop-number
invariant-loop-number l =
    record {
      same : walk_past (fire (system_of l.env.design.now) l.env.inputs.now) l.number (drop l.number l.nodes) (record { state = l.state; at = l.at }) ≡ walk_of (system_of l.env.design.now) l.env.inputs.now l.regs;
      registers : HaveWidths (register_widths l.env.design.now) l.state.regs;
    }
