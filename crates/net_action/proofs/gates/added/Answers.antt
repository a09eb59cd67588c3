use Rattle.net_action.proofs.Growth.{grows_by, wire_of_op}
use Rattle.net_action.proofs.gates.added.Goals as goal

pub returns-clause-grows : goal.returns-clause-grows
returns-clause-grows c inputs reads = grows_by inputs c.args.net.now c.add.new.self c.args.op c.in_ok-id.id c.in_ok-id.ensures.adds reads

pub returns-clause-wire : goal.returns-clause-wire
returns-clause-wire c = wire_of_op c.add.new.self c.in_ok-id.id c.args.op c.add.ensures.net c.in_ok-id.ensures.adds.at
