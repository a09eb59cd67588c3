use Rattle.net_simplify.proofs.ChoiceForms.{nested, nested_stands}
use Rattle.net_simplify.proofs.Standing.{within_node}
use Rattle.net_simplify.proofs.form.nested_form.Goals as goal

pub node_if_set-first-requires-clause-node : goal.node_if_set-first-requires-clause-node
node_if_set-first-requires-clause-node c = within_node c.args.net.now c.requires.lean.is_net c.args.a c.requires.stands.1

pub node_if_clear-second-requires-clause-node : goal.node_if_clear-second-requires-clause-node
node_if_clear-second-requires-clause-node c = within_node c.args.net.now c.requires.lean.is_net c.args.b c.requires.stands.2

pub choice_form-requires-clause-stands : goal.choice_form-requires-clause-stands
choice_form-requires-clause-stands c = nested_stands c.args.net.now c.requires.lean c.args.condition c.args.a c.args.b c.node_if_set-first.result c.node_if_clear-second.result c.requires.stands c.node_if_set-first.ensures c.node_if_clear-second.ensures

pub returns : goal.returns
returns c = nested c.args.net.now c.requires.lean c.args.condition c.args.a c.args.b c.node_if_set-first.result c.node_if_clear-second.result c.requires.stands c.node_if_set-first.ensures c.node_if_clear-second.ensures c.choice_form.result c.choice_form.ensures
