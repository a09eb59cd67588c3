use Rattle.std.proofs.Common.{◌≡◌, refl, sym, ap, ◌∙◌}
use Rattle.kw_bits.specs.Operators as op
use Rattle.net_graph.specs.Operators.{one_value}
use Rattle.net_graph.specs.Values.{node_value}
use Rattle.net_graph.specs.declared.node.NetOne.TheVariants.{Not}
use Rattle.net_graph.specs.declared.node.NetOp.TheVariants.{One}
use Rattle.net_simplify.proofs.Forming.{turned_twice}
use Rattle.net_simplify.proofs.Standing.{bits_node, value_node}
use Rattle.net_simplify.proofs.nodes.are_opposite.Goals as goal

pub returns-then-is_not_of : goal.returns-then-is_not_of
unfolding one_value
returns-then-is_not_of c = λ t s feeds. value_node c.args.net.now c.requires.net s c.args.b (One Not c.args.a) (c.if-is_not_of.ensures refl)

pub returns-then-is_not_of-2 : goal.returns-then-is_not_of-2
unfolding one_value
returns-then-is_not_of-2 c = λ t s feeds.
    let turned : node_value s c.args.net.now c.args.a ≡ op.not (node_value s c.args.net.now c.args.b) = value_node c.args.net.now c.requires.net s c.args.a (One Not c.args.b) (c.if-is_not_of-2.ensures refl) in
    sym (ap op.not turned ∙ turned_twice (node_value s c.args.net.now c.args.b) (bits_node c.args.net.now c.requires.net s c.args.b feeds c.requires.b).0)
