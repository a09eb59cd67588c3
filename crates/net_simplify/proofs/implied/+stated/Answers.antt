use Rattle.std.proofs.Common.{refl, ap, ◌∙◌, arith}
use Rattle.std.specs.Prelude.{Some}
use Rattle.net_graph.specs.declared.node.NetOne.{NetOne}
use Rattle.net_graph.specs.declared.node.NetOne.TheVariants.{Not}
use Rattle.net_graph.specs.declared.node.NetTwo.{NetTwo}
use Rattle.net_graph.specs.declared.node.NetOp.TheVariants.{One, Two}
use Rattle.net_simplify.proofs.Factoring.{and_operands, or_operands}
use Rattle.net_simplify.proofs.Implying.{stated-and, stated-not, stated-opposite, stated-or}
use Rattle.net_simplify.proofs.Standing.{stands_node, within_node}
use Rattle.net_simplify.proofs.implied.+stated.Goals as goal

pub returns-then-is_opposite_of : goal.returns-then-is_opposite_of
returns-then-is_opposite_of t c = stated-opposite c.args.net.now c.requires.net c.args.bit c.args.value c.args.id (c.if-is_opposite_of.ensures refl)

pub stated-requires : goal.stated-requires
stated-requires t c = (omega (arith, c.decreases, c.if-depth-eq0.false), (within_node c.args.net.now c.requires.net c.in-One-Not-default.a (stands_node c.args.net.now c.requires.net c.args.bit (One Not c.in-One-Not-default.a) (c.op_at.ensures ∙ ap Some (c.in-One-Not-default.is ∙ ap (λ (o : NetOne). One o c.in-One-Not-default.a) c.in-One-Not-default.field-0-is))), (c.requires.node, c.requires.net)))

pub stated-requires-in-Two-And-default-default : goal.stated-requires-in-Two-And-default-default
stated-requires-in-Two-And-default-default t c = (omega (arith, c.decreases, c.if-depth-eq0.false), ((and_operands c.args.net.now c.requires.net c.args.bit c.in-Two-And-default-default.a c.in-Two-And-default-default.b (c.op_at.ensures ∙ ap Some (c.in-Two-And-default-default.is ∙ ap (λ (o : NetTwo). Two o c.in-Two-And-default-default.a c.in-Two-And-default-default.b) c.in-Two-And-default-default.field-0-is))).first, (c.requires.node, c.requires.net)))

pub stated-requires-in-Two-And-default-default-2 : goal.stated-requires-in-Two-And-default-default-2
stated-requires-in-Two-And-default-default-2 t c = (omega (arith, c.decreases, c.if-depth-eq0.false), ((and_operands c.args.net.now c.requires.net c.args.bit c.in-Two-And-default-default.a c.in-Two-And-default-default.b (c.op_at.ensures ∙ ap Some (c.in-Two-And-default-default.is ∙ ap (λ (o : NetTwo). Two o c.in-Two-And-default-default.a c.in-Two-And-default-default.b) c.in-Two-And-default-default.field-0-is))).second, (c.requires.node, c.requires.net)))

pub stated-requires-in-Two-Or-default-default : goal.stated-requires-in-Two-Or-default-default
stated-requires-in-Two-Or-default-default t c = (omega (arith, c.decreases, c.if-depth-eq0.false), ((or_operands c.args.net.now c.requires.net c.args.bit c.in-Two-Or-default-default.a c.in-Two-Or-default-default.b (c.op_at.ensures ∙ ap Some (c.in-Two-Or-default-default.is ∙ ap (λ (o : NetTwo). Two o c.in-Two-Or-default-default.a c.in-Two-Or-default-default.b) c.in-Two-Or-default-default.field-0-is))).first, (c.requires.node, c.requires.net)))

pub stated-requires-in-Two-Or-default-default-2 : goal.stated-requires-in-Two-Or-default-default-2
stated-requires-in-Two-Or-default-default-2 t c = (omega (arith, c.decreases, c.if-depth-eq0.false), ((or_operands c.args.net.now c.requires.net c.args.bit c.in-Two-Or-default-default.a c.in-Two-Or-default-default.b (c.op_at.ensures ∙ ap Some (c.in-Two-Or-default-default.is ∙ ap (λ (o : NetTwo). Two o c.in-Two-Or-default-default.a c.in-Two-Or-default-default.b) c.in-Two-Or-default-default.field-0-is))).second, (c.requires.node, c.requires.net)))

pub returns-in-One-Not-default : goal.returns-in-One-Not-default
returns-in-One-Not-default t c = stated-not c.args.net.now c.requires.net c.args.bit c.args.value c.in-One-Not-default.a c.args.id (c.op_at.ensures ∙ ap Some (c.in-One-Not-default.is ∙ ap (λ (o : NetOne). One o c.in-One-Not-default.a) c.in-One-Not-default.field-0-is)) c.stated.result c.stated.ensures

pub returns-in-Two-And-default-default : goal.returns-in-Two-And-default-default
returns-in-Two-And-default-default t c = stated-and c.args.net.now c.requires.net c.args.bit c.args.value c.in-Two-And-default-default.a c.in-Two-And-default-default.b c.args.id (c.op_at.ensures ∙ ap Some (c.in-Two-And-default-default.is ∙ ap (λ (o : NetTwo). Two o c.in-Two-And-default-default.a c.in-Two-And-default-default.b) c.in-Two-And-default-default.field-0-is)) c.if-value.true c.stated-in-Two-And-default-default.result c.stated-in-Two-And-default-default-2.result c.first_known.result c.stated-in-Two-And-default-default.ensures c.stated-in-Two-And-default-default-2.ensures c.first_known.ensures

pub returns-in-Two-Or-default-default : goal.returns-in-Two-Or-default-default
returns-in-Two-Or-default-default t c = stated-or c.args.net.now c.requires.net c.args.bit c.args.value c.in-Two-Or-default-default.a c.in-Two-Or-default-default.b c.args.id (c.op_at.ensures ∙ ap Some (c.in-Two-Or-default-default.is ∙ ap (λ (o : NetTwo). Two o c.in-Two-Or-default-default.a c.in-Two-Or-default-default.b) c.in-Two-Or-default-default.field-0-is)) c.if-not-value.true c.stated-in-Two-Or-default-default.result c.stated-in-Two-Or-default-default-2.result c.first_known-in-Two-Or-default-default.result c.stated-in-Two-Or-default-default.ensures c.stated-in-Two-Or-default-default-2.ensures c.first_known-in-Two-Or-default-default.ensures
