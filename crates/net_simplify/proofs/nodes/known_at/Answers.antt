use Rattle.std.proofs.Common.{sym, subst}
use Rattle.kw_bits.specs.BitVector.{BitVector}
use Rattle.net_graph.specs.declared.node.NetOp.TheVariants.{Const}
use Rattle.net_simplify.specs.inner.Identities.{IsKnown}
use Rattle.net_simplify.proofs.Standing.{value_node}
use Rattle.net_simplify.proofs.nodes.known_at.Goals as goal

pub returns-in-Some : goal.returns-in-Some
returns-in-Some c = λ s feeds. subst (λ (v : BitVector). IsKnown c.known_of.result v) (sym (value_node c.args.net.now c.requires.net s c.args.id (Const c.in-Some.value) c.in-Some.ensures.some)) c.known_of.ensures
