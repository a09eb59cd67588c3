use Rattle.std.proofs.Common.{ap, ◌∙◌}
use Rattle.std.specs.Prelude.{Some}
use Rattle.std.proofs.lemmas.Bool.{eqb-true}
use Rattle.net_graph.specs.declared.node.NetOne.TheVariants.{Not}
use Rattle.net_graph.specs.declared.node.NetOp.TheVariants.{One}
use Rattle.net_simplify.proofs.nodes.is_not_of.Goals as goal

pub returns-in-Some : goal.returns-in-Some
returns-in-Some c = λ t. c.op_at.ensures ∙ ap Some (c.in-Some.ensures.some ∙ ap (One Not) (eqb-true c.in-Some.turned c.args.a t))
