use Rattle.std.proofs.Common.{◌≡◌, ◌++◌, drop}
use Rattle.typed_core.specs.Widths.{HaveWidths, register_widths}
use Rattle.one_rule.specs.Cycle.{fire, system_of, walk_of}
use Rattle.one_rule.specs.Walk.{walk_past}
use Rattle.lab_core.specs.Trials.{trials, trials_past}
use Rattle.lab_core.specs.inner.Steps.{walk_at}
use Rattle.lab_core.proofs.walk.walk.Given as goal

-- the walk past the nodes that are left ends where the whole one does, and its trials are those that are missing
abbrev pub invariant-loop-number : goal.invariant-loop-number
invariant-loop-number l =
    record {
      same : walk_past (fire (system_of l.env.design.now) l.env.inputs.now) l.number (drop l.number l.nodes) (walk_at l.regs l.tried l.at) ≡ walk_of (system_of l.env.design.now) l.env.inputs.now l.fn.regs;
      trials : l.tried ++ trials_past (system_of l.env.design.now) l.env.inputs.now l.number (drop l.number l.nodes) (walk_at l.regs l.tried l.at) ≡ trials (system_of l.env.design.now) l.env.inputs.now l.fn.regs;
      registers : HaveWidths (register_widths l.env.design.now) l.regs;
    }
