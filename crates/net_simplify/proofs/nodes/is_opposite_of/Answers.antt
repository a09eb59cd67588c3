use Rattle.net_simplify.proofs.Forming.{nodes_turned}
use Rattle.net_simplify.proofs.nodes.is_opposite_of.Goals as goal

pub returns : goal.returns
returns c = λ t s feeds. nodes_turned c.args.net.now c.requires.net c.args.a c.args.id c.op_at-first.result c.op_at-second.result c.op_at-first.ensures c.op_at-second.ensures (c.is_opposite.ensures t) s feeds
