use Rattle.net_action.proofs.Adding.{two_wire}
use Rattle.net_action.proofs.operators.two.Goals as goal

pub returns-clause-wire : goal.returns-clause-wire
returns-clause-wire c left right width h k t = two_wire c.args.net.now c.gate.new.net c.gate.ensures.grows c.in_ok-id.id c.net_two.result c.args.x c.args.y left right width h k (c.net_two.ensures.width left right width t) c.in_ok-id.ensures.wire
