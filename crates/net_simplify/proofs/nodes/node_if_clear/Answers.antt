use Rattle.std.proofs.Common.{ℕ, ap, ◌∙◌}
use Rattle.std.specs.Prelude.{Some}
use Rattle.net_graph.specs.declared.node.NetOp.TheVariants.{Ite}
use Rattle.net_simplify.proofs.ChoiceForms.{chosen_if_clear}
use Rattle.net_simplify.proofs.nodes.node_if_clear.Goals as goal

pub returns-in-Ite : goal.returns-in-Ite
returns-in-Ite c =
    chosen_if_clear c.args.net.now c.requires.net c.args.condition c.args.id c.in-Ite.field-1 c.in-Ite.second (c.in-Ite.ensures ∙ ap (λ (by : ℕ). Some (Ite by c.in-Ite.field-1 c.in-Ite.second)) c.if-by-condition.true)
