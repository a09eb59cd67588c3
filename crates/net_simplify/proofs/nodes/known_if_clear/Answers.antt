use Rattle.std.proofs.Common.{ℕ, ◌^◌, ◌<◌, sym, subst, ◌∙◌, arith}
use Rattle.net_graph.specs.Values.{node_value}
use Rattle.net_simplify.specs.inner.Identities.{IsKnown}
use Rattle.net_simplify.specs.declared.known.Known.TheVariants.{Zero}
use Rattle.net_simplify.proofs.Standing.{bits_node}
use Rattle.net_simplify.proofs.nodes.known_if_clear.Goals as goal

pub returns-then-id-condition : goal.returns-then-id-condition
returns-then-id-condition c = λ s feeds one.
    let bits = bits_node c.args.net.now c.requires.net s c.args.condition feeds c.requires.condition in
    let below : (node_value s c.args.net.now c.args.condition).number < 2 ^ 1 = subst (λ w. (node_value s c.args.net.now c.args.condition).number < 2 ^ w) (bits.1 ∙ c.requires.one_bit) bits.0.in_range in
    subst (λ (id : ℕ). IsKnown Zero (node_value s c.args.net.now id)) (sym c.if-id-condition.true) (omega (arith, below, one))
