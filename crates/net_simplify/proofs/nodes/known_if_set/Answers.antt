use Rattle.std.proofs.Common.{ℕ, ◌-◌, ◌^◌, sym, ap, subst, ◌∙◌}
use Rattle.net_graph.specs.Values.{node_value}
use Rattle.net_simplify.specs.inner.Identities.{IsKnown}
use Rattle.net_simplify.specs.declared.known.Known.TheVariants.{Ones}
use Rattle.net_simplify.proofs.Standing.{bits_node}
use Rattle.net_simplify.proofs.nodes.known_if_set.Goals as goal

pub returns-then-id-condition : goal.returns-then-id-condition
returns-then-id-condition c = λ s feeds one.
    let bits = bits_node c.args.net.now c.requires.net s c.args.condition feeds c.requires.condition in
    subst (λ (id : ℕ). IsKnown Ones (node_value s c.args.net.now id)) (sym c.if-id-condition.true) (one ∙ sym (ap (λ w. 2 ^ w - 1) (bits.1 ∙ c.requires.one_bit)))
