use Rattle.net_action.proofs.Adding.{ite_value_is, ite_wire}
use Rattle.net_action.proofs.gates.choice.Goals as goal

pub returns-clause-wire : goal.returns-clause-wire
returns-clause-wire c width h = ite_wire c.args.net.now c.gate.new.net c.gate.ensures.grows c.in_ok-id.id c.args.condition c.args.first c.args.second width h c.in_ok-id.ensures.wire

pub returns-clause-value : goal.returns-clause-value
returns-clause-value c = ite_value_is c.args.net.now c.gate.new.net c.gate.ensures.grows c.in_ok-id.id c.args.condition c.args.first c.args.second c.in_ok-id.ensures.at
