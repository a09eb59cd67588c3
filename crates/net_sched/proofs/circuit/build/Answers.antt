use Rattle.std.proofs.Common.{sym, subst}
use Rattle.net_sched.specs.Designs.{HasParts, RunsAs}
use Rattle.net_sched.proofs.Circuits.{same_wires}
use Rattle.net_sched.proofs.circuit.build.Goals as goal

pub unwrap-requires : goal.unwrap-requires
unwrap-requires c = c.new.ensures.some.1 c.in_ok-wires.ensures.circuit

pub returns-clause-parts : goal.returns-clause-parts
returns-clause-parts c = subst (HasParts c.args.design.now) (sym (same_wires c.new.result c.in_ok-wires.wires c.unwrap.result c.new.ensures.wires c.unwrap.ensures)) c.in_ok-wires.ensures.parts

pub returns-clause-run : goal.returns-clause-run
returns-clause-run c = subst (RunsAs c.args.design.now) (sym (same_wires c.new.result c.in_ok-wires.wires c.unwrap.result c.new.ensures.wires c.unwrap.ensures)) c.in_ok-wires.ensures.run
