use Rattle.std.proofs.Common.{ap, ◌∙◌}
use Rattle.std.specs.Prelude.{Some}
use Rattle.net_graph.specs.declared.node.NetOp.TheVariants.{Two}
use Rattle.net_graph.specs.declared.node.NetTwo.TheVariants.{Or}
use Rattle.net_simplify.specs.inner.Forms.{IsCommon, IsForm}
use Rattle.net_simplify.specs.declared.form.Form.TheVariants.{Node}
use Rattle.net_simplify.proofs.Factoring.{and_operands, or-factored, some_weaker}
use Rattle.net_simplify.proofs.factors.or_factor.Goals as goal

pub common_of-requires-clause-one : goal.common_of-requires-clause-one
common_of-requires-clause-one c = and_operands c.args.net.now c.requires.net c.args.a c.in_ok-one.one.first c.in_ok-one.one.second (c.op_at.ensures ∙ ap Some c.in_ok-one.ensures)

pub common_of-requires-clause-other : goal.common_of-requires-clause-other
common_of-requires-clause-other c = and_operands c.args.net.now c.requires.net c.args.b c.in_ok-other.other.first c.in_ok-other.other.second (c.op_at-2.ensures ∙ ap Some c.in_ok-other.ensures)

pub returns : goal.returns
returns c =
    some_weaker c.common_of.result (IsCommon c.args.net.now c.in_ok-one.one.first c.in_ok-one.one.second c.in_ok-other.other.first c.in_ok-other.other.second) (λ id. IsForm c.args.net.now (Two Or c.args.a c.args.b) (Node id))
    (λ id common. or-factored c.args.net.now c.requires.net c.args.a c.args.b c.in_ok-one.one.first c.in_ok-one.one.second c.in_ok-other.other.first c.in_ok-other.other.second id (c.op_at.ensures ∙ ap Some c.in_ok-one.ensures) (c.op_at-2.ensures ∙ ap Some c.in_ok-other.ensures) common) c.common_of.ensures
