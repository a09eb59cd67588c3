use Rattle.std.proofs.Common.{ap, ◌∙◌}
use Rattle.std.specs.Prelude.{Some}
use Rattle.net_simplify.proofs.ChoiceForms.{choice-turned, turned_stands}
use Rattle.net_simplify.proofs.Standing.{within_node}
use Rattle.net_simplify.proofs.form.ite_form.Goals as goal

pub op_at-requires : goal.op_at-requires
op_at-requires c = within_node c.args.net.now c.requires.lean.is_net c.args.condition c.requires.stands.0

pub nested_form-requires-clause-stands : goal.nested_form-requires-clause-stands
nested_form-requires-clause-stands c = turned_stands c.args.net.now c.requires.lean c.args.condition c.in-Some.turned c.args.a c.args.b (c.op_at.ensures ∙ ap Some c.in-Some.ensures.some) c.requires.stands

pub returns-in-Some : goal.returns-in-Some
returns-in-Some c = choice-turned c.args.net.now c.requires.lean c.args.condition c.in-Some.turned c.args.a c.args.b (c.op_at.ensures ∙ ap Some c.in-Some.ensures.some) c.requires.stands c.nested_form.result c.nested_form.ensures
