use Rattle.std.proofs.Common.{◌≡◌, ℕ, ◌≤◌, List, [], sym, subst, ◌∙◌}
use Rattle.net_graph.specs.Nets.{width_at, widths_of}
use Rattle.net_graph.specs.Values.{value_at}
use Rattle.net_graph.specs.declared.node.NetOp.{NetOp}
use Rattle.net_action.specs.inner.Parts.{AskedHasWidth}
use Rattle.net_action.specs.Wires.{HasWire}
use Rattle.net_action.proofs.Answering.{asked_few, none_above}
use Rattle.net_action.proofs.Growth.{values_before, wire_inside, wire_width}
use Rattle.net_action.proofs.lookup.answer.Goals as goal

operand_is : (net : List NetOp) (x width operand : ℕ) → width ≡ width_at (widths_of net) x → HasWire net x operand → operand ≡ width
operand_is net x width operand is h = sym (wire_width net x operand h) ∙ sym is

pub width-width-requires : goal.width-width-requires
width-width-requires g c = wire_inside c.args.net.now c.args.x c.requires.asked.0 c.requires.asked.2

pub tree-requires-clause-asked : goal.tree-requires-clause-asked
tree-requires-clause-asked g c =
    (c.requires.asked.1, subst (λ (n : ℕ). AskedHasWidth (g.E.Outside.kept c.args.externs.now) c.args.asked n c.requires.asked.1) (operand_is c.args.net.now c.args.x c.width-width.result c.requires.asked.0 c.width-width.ensures.width c.requires.asked.2) c.requires.asked.3)

pub tree-requires-clause-wire : goal.tree-requires-clause-wire
tree-requires-clause-wire g c =
    subst (λ (n : ℕ). HasWire c.args.net.now c.args.x n) (operand_is c.args.net.now c.args.x c.width-width.result c.requires.asked.0 c.width-width.ensures.width c.requires.asked.2) c.requires.asked.2

pub tree-requires-clause-few : goal.tree-requires-clause-few
tree-requires-clause-few g c =
    subst (λ (n : ℕ). n ≤ 12) (operand_is c.args.net.now c.args.x c.width-width.result c.requires.asked.0 c.width-width.ensures.width c.requires.asked.2)
    (asked_few (g.E.Outside.kept c.args.externs.now) c.args.asked c.requires.asked.0 c.requires.asked.1 c.requires.tables c.requires.hosts c.requires.asked.3)

pub returns-clause-wire : goal.returns-clause-wire
returns-clause-wire g c operand width h t =
    c.in_ok-wire.ensures.wire width (subst (λ (n : ℕ). AskedHasWidth (g.E.Outside.kept c.args.externs.now) c.args.asked n width) (operand_is c.args.net.now c.args.x c.width-width.result operand c.width-width.ensures.width h) t)

pub returns-clause-value : goal.returns-clause-value
returns-clause-value g c s values are =
    let wire = subst (λ (n : ℕ). HasWire c.args.net.now c.args.x n) (operand_is c.args.net.now c.args.x c.width-width.result c.requires.asked.0 c.width-width.ensures.width c.requires.asked.2) c.requires.asked.2 in
    let before = values_before s [] c.args.net.now c.tree.new.net values (c.tree.ensures.grows []) are in
    c.in_ok-wire.ensures.value s values are (none_above (value_at values c.args.x) c.width-width.result (before.fit c.args.x c.width-width.result wire))
