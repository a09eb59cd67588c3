use Rattle.std.proofs.Common.{ℕ, ap, ◌∙◌}
use Rattle.std.specs.Prelude.{Some}
use Rattle.net_graph.specs.declared.node.NetOp.TheVariants.{Ite}
use Rattle.net_simplify.proofs.ChoiceForms.{chosen_if_set}
use Rattle.net_simplify.proofs.nodes.node_if_set.Goals as goal

pub returns-in-Ite : goal.returns-in-Ite
returns-in-Ite c =
    chosen_if_set c.args.net.now c.requires.net c.args.condition c.args.id c.in-Ite.first c.in-Ite.field-2 (c.in-Ite.ensures ∙ ap (λ (by : ℕ). Some (Ite by c.in-Ite.first c.in-Ite.field-2)) c.if-by-condition.true)
