use Rattle.std.proofs.Common.{sym, ap, ◌∙◌}
use Rattle.std.specs.Prelude.{Some}
use Rattle.std.proofs.lemmas.Option.{same_Some}
use Rattle.net_graph.specs.declared.node.NetOne.TheVariants.{Not}
use Rattle.net_graph.specs.declared.node.NetOp.TheVariants.{One}
use Rattle.net_simplify.proofs.Forming.{form_itself, not_not, not_turned}
use Rattle.net_simplify.proofs.Standing.{within_node}
use Rattle.net_simplify.proofs.form.not_form.Goals as goal

pub op_at-below-requires : goal.op_at-below-requires
op_at-below-requires c = within_node c.args.net.now c.requires.lean.is_net c.args.a c.requires.stands

pub returns-in-Some-not_of : goal.returns-in-Some-not_of
returns-in-Some-not_of c = not_not c.args.net.now c.requires.lean c.args.a c.in-Some-not_of.b (c.op_at-below.ensures ∙ ap Some c.in-Some-not_of.ensures.some)

pub returns-in-Some-opposite_of : goal.returns-in-Some-opposite_of
returns-in-Some-opposite_of c = not_turned c.args.net.now c.requires.lean c.args.a c.op_at-below.result c.in-Some-opposite_of.other c.op_at-below.ensures c.in-Some-opposite_of.ensures

pub returns : goal.returns
returns c =
    form_itself c.args.net.now (One Not c.args.a) c.requires.stands c.in_default.ensures.none
    (λ b at. c.in_default-not_of.ensures.none b (same_Some c.op_at-below.result (One Not b) (sym c.op_at-below.ensures ∙ at)))
