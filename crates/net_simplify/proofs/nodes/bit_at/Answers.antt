use Rattle.std.proofs.Common.{sym, subst}
use Rattle.kw_bits.specs.BitVector.{BitVector}
use Rattle.net_graph.specs.declared.node.NetOp.TheVariants.{Const}
use Rattle.net_simplify.specs.inner.Forms.{IsKnownBit}
use Rattle.net_simplify.proofs.Standing.{value_node}
use Rattle.net_simplify.proofs.nodes.bit_at.Goals as goal

pub returns-in-Some : goal.returns-in-Some
returns-in-Some c = λ s feeds.
    subst (λ (v : BitVector). IsKnownBit c.bit_of.result v) (sym (value_node c.args.net.now c.requires.net s c.args.id (Const c.in-Some.value) c.in-Some.ensures.some))
    c.bit_of.ensures
