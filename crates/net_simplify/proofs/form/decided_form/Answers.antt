use Rattle.std.proofs.Common.{sym, ◌∙◌}
use Rattle.net_simplify.proofs.Implying.{decided-first, decided-second}
use Rattle.net_simplify.proofs.Standing.{within_node}
use Rattle.net_simplify.proofs.form.decided_form.Goals as goal

pub width-requires : goal.width-requires
width-requires c = within_node c.args.net.now c.requires.lean.is_net c.args.a c.requires.stands.0

pub value_where-requires-clause-bit : goal.value_where-requires-clause-bit
value_where-requires-clause-bit c = within_node c.args.net.now c.requires.lean.is_net c.args.a c.requires.stands.0

pub value_where-requires-clause-node : goal.value_where-requires-clause-node
value_where-requires-clause-node c = within_node c.args.net.now c.requires.lean.is_net c.args.b c.requires.stands.1

pub value_where-requires-2-clause-bit : goal.value_where-requires-2-clause-bit
value_where-requires-2-clause-bit c = within_node c.args.net.now c.requires.lean.is_net c.args.b c.requires.stands.1

pub value_where-requires-2-clause-node : goal.value_where-requires-2-clause-node
value_where-requires-2-clause-node c = within_node c.args.net.now c.requires.lean.is_net c.args.a c.requires.stands.0

pub returns-in-Some : goal.returns-in-Some
returns-in-Some c = decided-first c.args.net.now c.requires.lean.is_net c.args.operator c.args.a c.args.b c.requires.stands c.in_ok-unit.unit c.in-Some.known c.in_ok-unit.ensures (sym c.width.ensures.width ∙ c.if-width-ne1.false) c.in-Some.ensures c.decided.result c.decided.ensures.same c.decided.ensures.other

pub returns-in-Some-value_where : goal.returns-in-Some-value_where
returns-in-Some-value_where c = decided-second c.args.net.now c.requires.lean.is_net c.args.operator c.args.a c.args.b c.requires.stands c.in_ok-unit.unit c.in-Some-value_where.known c.in_ok-unit.ensures (sym c.width.ensures.width ∙ c.if-width-ne1.false) c.in-Some-value_where.ensures c.decided-in-Some-value_where.result c.decided-in-Some-value_where.ensures.same c.decided-in-Some-value_where.ensures.other
