use Rattle.std.proofs.Common.{refl}
use Rattle.std.specs.Prelude.{IfSome, None, Option, Some}
use Rattle.kw_bits.specs.BitVector.{BitVector}
use Rattle.net_graph.specs.declared.node.NetOp.TheVariants.{Two}
use Rattle.net_simplify.specs.inner.Forms.{IsForm, IsOfOpposites}
use Rattle.net_simplify.specs.declared.form.Form.TheVariants.{Constant}
use Rattle.net_simplify.proofs.Forming.{opposites_form}
use Rattle.net_simplify.proofs.Standing.{within_node}
use Rattle.net_simplify.proofs.form.opposites_value.Goals as goal

if_some : (o : Option BitVector) (P Q : BitVector → Type 0) → ((value : BitVector) → P value → Q value) → IfSome o P → IfSome o Q
if_some (Some value) P Q f p = f value p
if_some None P Q f p = tt

pub are_opposite-requires-clause-a : goal.are_opposite-requires-clause-a
are_opposite-requires-clause-a c = within_node c.args.net.now c.requires.lean.is_net c.args.a c.requires.stands.0

pub are_opposite-requires-clause-b : goal.are_opposite-requires-clause-b
are_opposite-requires-clause-b c = within_node c.args.net.now c.requires.lean.is_net c.args.b c.requires.stands.1

pub width-requires : goal.width-requires
width-requires c = within_node c.args.net.now c.requires.lean.is_net c.args.a c.requires.stands.0

pub returns-then-are_opposite : goal.returns-then-are_opposite
returns-then-are_opposite c =
    if_some c.of_opposites.result (IsOfOpposites c.args.operator c.width.result) (λ value. IsForm c.args.net.now (Two c.args.operator c.args.a c.args.b) (Constant value))
    (λ value is. opposites_form c.args.net.now c.requires.lean c.args.operator c.args.a c.args.b c.requires.stands (c.if-are_opposite.ensures refl) c.width.result value c.width.ensures.width is) c.of_opposites.ensures
