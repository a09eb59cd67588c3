use Rattle.std.proofs.Common.{ap, ◌∙◌, arith}
use Rattle.std.specs.Prelude.{Some}
use Rattle.net_graph.specs.declared.node.NetOne.{NetOne}
use Rattle.net_graph.specs.declared.node.NetOne.TheVariants.{Not}
use Rattle.net_graph.specs.declared.node.NetTwo.{NetTwo}
use Rattle.net_graph.specs.declared.node.NetOp.TheVariants.{One, Two}
use Rattle.net_simplify.proofs.Factoring.{and_operands, or_operands}
use Rattle.net_simplify.proofs.Implying.{tells-and, tells-not, tells-or}
use Rattle.net_simplify.proofs.Standing.{stands_node, within_node}
use Rattle.net_simplify.proofs.implied.+value_within.Goals as goal

pub value_within-requires : goal.value_within-requires
value_within-requires t c = (omega (arith, c.decreases, c.if-depth-eq0.false), (c.requires.bit, (within_node c.args.net.now c.requires.net c.in-One-Not-default.a (stands_node c.args.net.now c.requires.net c.args.id (One Not c.in-One-Not-default.a) (c.op_at.ensures ∙ ap Some (c.in-One-Not-default.is ∙ ap (λ (o : NetOne). One o c.in-One-Not-default.a) c.in-One-Not-default.field-0-is))), c.requires.net)))

pub value_within-requires-in-Two-And-default-default : goal.value_within-requires-in-Two-And-default-default
value_within-requires-in-Two-And-default-default t c = (omega (arith, c.decreases, c.if-depth-eq0.false), (c.requires.bit, ((and_operands c.args.net.now c.requires.net c.args.id c.in-Two-And-default-default.a c.in-Two-And-default-default.b (c.op_at.ensures ∙ ap Some (c.in-Two-And-default-default.is ∙ ap (λ (o : NetTwo). Two o c.in-Two-And-default-default.a c.in-Two-And-default-default.b) c.in-Two-And-default-default.field-0-is))).first, c.requires.net)))

pub value_within-requires-in-Two-And-default-default-2 : goal.value_within-requires-in-Two-And-default-default-2
value_within-requires-in-Two-And-default-default-2 t c = (omega (arith, c.decreases, c.if-depth-eq0.false), (c.requires.bit, ((and_operands c.args.net.now c.requires.net c.args.id c.in-Two-And-default-default.a c.in-Two-And-default-default.b (c.op_at.ensures ∙ ap Some (c.in-Two-And-default-default.is ∙ ap (λ (o : NetTwo). Two o c.in-Two-And-default-default.a c.in-Two-And-default-default.b) c.in-Two-And-default-default.field-0-is))).second, c.requires.net)))

pub value_within-requires-in-Two-Or-default-default : goal.value_within-requires-in-Two-Or-default-default
value_within-requires-in-Two-Or-default-default t c = (omega (arith, c.decreases, c.if-depth-eq0.false), (c.requires.bit, ((or_operands c.args.net.now c.requires.net c.args.id c.in-Two-Or-default-default.a c.in-Two-Or-default-default.b (c.op_at.ensures ∙ ap Some (c.in-Two-Or-default-default.is ∙ ap (λ (o : NetTwo). Two o c.in-Two-Or-default-default.a c.in-Two-Or-default-default.b) c.in-Two-Or-default-default.field-0-is))).first, c.requires.net)))

pub value_within-requires-in-Two-Or-default-default-2 : goal.value_within-requires-in-Two-Or-default-default-2
value_within-requires-in-Two-Or-default-default-2 t c = (omega (arith, c.decreases, c.if-depth-eq0.false), (c.requires.bit, ((or_operands c.args.net.now c.requires.net c.args.id c.in-Two-Or-default-default.a c.in-Two-Or-default-default.b (c.op_at.ensures ∙ ap Some (c.in-Two-Or-default-default.is ∙ ap (λ (o : NetTwo). Two o c.in-Two-Or-default-default.a c.in-Two-Or-default-default.b) c.in-Two-Or-default-default.field-0-is))).second, c.requires.net)))

pub returns-in-One-Not-default : goal.returns-in-One-Not-default
returns-in-One-Not-default t c = tells-not c.args.net.now c.requires.net c.args.bit c.args.value c.args.id c.in-One-Not-default.a (c.op_at.ensures ∙ ap Some (c.in-One-Not-default.is ∙ ap (λ (o : NetOne). One o c.in-One-Not-default.a) c.in-One-Not-default.field-0-is)) c.value_within.result c.turned.result c.value_within.ensures c.turned.ensures

pub returns-in-Two-And-default-default : goal.returns-in-Two-And-default-default
returns-in-Two-And-default-default t c = tells-and c.args.net.now c.requires.net c.args.bit c.args.value c.args.id c.in-Two-And-default-default.a c.in-Two-And-default-default.b (c.op_at.ensures ∙ ap Some (c.in-Two-And-default-default.is ∙ ap (λ (o : NetTwo). Two o c.in-Two-And-default-default.a c.in-Two-And-default-default.b) c.in-Two-And-default-default.field-0-is)) c.value_within-in-Two-And-default-default.result c.value_within-in-Two-And-default-default-2.result c.both.result c.value_within-in-Two-And-default-default.ensures c.value_within-in-Two-And-default-default-2.ensures c.both.ensures

pub returns-in-Two-Or-default-default : goal.returns-in-Two-Or-default-default
returns-in-Two-Or-default-default t c = tells-or c.args.net.now c.requires.net c.args.bit c.args.value c.args.id c.in-Two-Or-default-default.a c.in-Two-Or-default-default.b (c.op_at.ensures ∙ ap Some (c.in-Two-Or-default-default.is ∙ ap (λ (o : NetTwo). Two o c.in-Two-Or-default-default.a c.in-Two-Or-default-default.b) c.in-Two-Or-default-default.field-0-is)) c.value_within-in-Two-Or-default-default.result c.value_within-in-Two-Or-default-default-2.result c.either.result c.value_within-in-Two-Or-default-default.ensures c.value_within-in-Two-Or-default-default-2.ensures c.either.ensures
