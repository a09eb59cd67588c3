use Rattle.net_action.proofs.Adding.{not_is_up, not_wire}
use Rattle.net_action.proofs.gates.opposite.Goals as goal

pub returns-clause-wire : goal.returns-clause-wire
returns-clause-wire c = not_wire c.args.net.now c.gate.new.net c.gate.ensures.grows c.in_ok-id.id c.args.a 1 c.requires c.in_ok-id.ensures.wire

pub returns-clause-up : goal.returns-clause-up
returns-clause-up c = not_is_up c.args.net.now c.gate.new.net c.gate.ensures.grows c.in_ok-id.id c.args.a c.requires c.in_ok-id.ensures.at
