use Rattle.std.proofs.Common.{sym, ◌∙◌}
use Rattle.net_graph.specs.Operators.{TakesTwo}
use Rattle.net_action.proofs.Adding.{or_is_up, or_wire}
use Rattle.net_action.proofs.Growth.{wire_width, wire_within}
use Rattle.net_action.proofs.gates.either.Goals as goal

pub gate-requires-clause-stands : goal.gate-requires-clause-stands
unfolding TakesTwo
gate-requires-clause-stands c = (
  wire_within c.args.net.now c.args.a 1 c.requires.a,
  wire_within c.args.net.now c.args.b 1 c.requires.b,
  wire_width c.args.net.now c.args.a 1 c.requires.a ∙ sym (wire_width c.args.net.now c.args.b 1 c.requires.b),
)

pub returns-clause-wire : goal.returns-clause-wire
returns-clause-wire c = or_wire c.args.net.now c.gate.new.net c.gate.ensures.grows c.in_ok-id.id c.args.a c.args.b 1 c.requires.a c.in_ok-id.ensures.wire

pub returns-clause-up : goal.returns-clause-up
returns-clause-up c = or_is_up c.args.net.now c.gate.new.net c.gate.ensures.grows c.in_ok-id.id c.args.a c.args.b c.requires.a c.requires.b c.in_ok-id.ensures.at
