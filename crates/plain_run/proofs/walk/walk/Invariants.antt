use Rattle.std.proofs.Common.{◌≡◌, drop}
use Rattle.one_rule.specs.PortRun.{PortState, port_fire}
use Rattle.one_rule.specs.Walk.{walk_from, walk_past}
use Rattle.plain_run.specs.inner.Walking.{IsEmpty, Stands, begin}
use Rattle.plain_run.proofs.walk.walk.Given as goal

-- the walk past the nodes that are left ends where the whole one does
abbrev pub invariant-loop-number : goal.invariant-loop-number
invariant-loop-number l =
    record {
      stands : (state : PortState) × Stands l.env.design.now l.walking state
          × (walk_past (port_fire l.env.design.now l.env.inputs.now l.regs) l.number (drop l.number l.nodes) (record { state = state; at = l.walking.at }) ≡ walk_from (port_fire l.env.design.now l.env.inputs.now l.regs) l.nodes begin);
      log : IsEmpty l.env.design.now l.log.value;
    }
