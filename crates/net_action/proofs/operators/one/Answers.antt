use Rattle.net_action.proofs.Adding.{one_wire}
use Rattle.net_action.proofs.operators.one.Goals as goal

pub returns-clause-wire : goal.returns-clause-wire
returns-clause-wire c operand width h t = one_wire c.args.net.now c.gate.new.net c.gate.ensures.grows c.in_ok-id.id c.net_one.result c.args.x operand width h (c.net_one.ensures.width operand width t) c.in_ok-id.ensures.wire
