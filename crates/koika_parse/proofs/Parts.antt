-- A part of a tree is one of the grammar's where it is at its own level and all of its parts are.
use Rattle.std.proofs.Common.{◌≡◌, ℕ, ◌<◌, Option, Some, None, IfSome, List, [], ◌∷◌, map, refl, sym, ap, subst, arith}
use Rattle.std.specs.List.{All}
use Rattle.std.proofs.lemmas.List.Elements.{All-head, All-tail}
use Rattle.koika_syntax.specs.Grammar.{IsConstant, IsBlock, IsScheduler, IsName, IsNonempty, IsOperandAt, IsType, IsWidth, NumberFits, level, level_of}
use Rattle.koika_syntax.specs.Grammar.{IsConstantLayer, IsExpressionLayer}
use Rattle.koika_syntax.specs.inner.Grammar.{IsExpression}
use Rattle.koika_syntax.specs.declared.operator.BinaryOperator.{BinaryOperator}
use Rattle.koika_syntax.specs.declared.operator.Extension.{Extension}
use Rattle.koika_syntax.specs.declared.operator.SignedComparison.{SignedComparison}
use Rattle.koika_syntax.specs.declared.tree.Arm.{Arm, roll-Arm}
use Rattle.koika_syntax.specs.declared.tree.Block.{Block, roll-Block}
use Rattle.koika_syntax.specs.declared.tree.Choice.{Choice, roll-Choice}
use Rattle.koika_syntax.specs.declared.tree.Constant.{Constant}
use Rattle.koika_syntax.specs.declared.tree.Constant.TheOpen as constant
use Rattle.koika_syntax.specs.declared.tree.Constant.TheViews as constant_views
use Rattle.koika_syntax.specs.declared.tree.ConstantField.{ConstantField, roll-ConstantField}
use Rattle.koika_syntax.specs.declared.tree.Expression.{Expression}
use Rattle.koika_syntax.specs.declared.tree.Expression.TheOpen as expression
use Rattle.koika_syntax.specs.declared.tree.Expression.TheViews as views
use Rattle.koika_syntax.specs.declared.tree.FieldValue.{FieldValue, roll-FieldValue}
use Rattle.koika_syntax.specs.declared.tree.Literal.{Literal}
use Rattle.koika_syntax.specs.declared.tree.Name.{Name}
use Rattle.koika_syntax.specs.declared.tree.Number.{Number}
use Rattle.koika_syntax.specs.declared.tree.Operand.{Operand, roll-Operand, out-Operand, out-roll-Operand}
use Rattle.koika_syntax.specs.declared.tree.UpdatedPart.{UpdatedPart}
use Rattle.koika_syntax.specs.declared.tree.Prefix.{Prefix}
use Rattle.koika_syntax.specs.declared.tree.Scheduler.{Scheduler, roll-Scheduler}
use Rattle.koika_syntax.specs.declared.tree.Statement.{Statement}
use Rattle.koika_syntax.specs.declared.tree.Suffix.{Suffix}
use Rattle.koika_syntax.specs.declared.tree.TypeExpression.{TypeExpression}
use Rattle.koika_syntax.specs.declared.tree.TypeExpression.TheOpen as type_expression
use Rattle.koika_syntax.specs.declared.tree.TypeExpression.TheViews as type_views
use Rattle.koika_syntax.specs.declared.tree.Width.{Width}
use Rattle.koika_parse.proofs.Layers.{Such, Kind, Grown, type_grown, constant_grown, constant_field_grown, expression_grown, statement_grown, arm_grown}
use Rattle.koika_parse.proofs.Layers.{block_grown, field_value_grown, operand_grown, choice_grown, scheduler_grown}
use Rattle.koika_parse.specs.inner.Parts.{IsConstantField, IsStatement, IsArm, IsFieldValue, IsOperand, IsOperandIn, IsChoice}

paired : {X : Type 0} (P : X → Type 0) (xs : List X) → All P xs → List (Such P)
paired P [] all = []
paired P (x ∷ xs) all = (x, All-head P x xs all) ∷ paired P xs (All-tail P x xs all)

paired_are : {X : Type 0} (P : X → Type 0) (xs : List X) (all : All P xs) → map (λ e. e.0) (paired P xs all) ≡ xs
unfolding paired
paired_are P [] all = refl
paired_are P (x ∷ xs) all = ap (λ t. x ∷ t) (paired_are P xs (All-tail P x xs all))

-- a tree is of the grammar by its layer, whose trees are
made : {k : Kind} → Grown k → {d : k.Layer} {t : k.Tree} (y : k.Open) → k.roll d ≡ t → k.closed y ≡ d → k.IsLayer d → k.Is t
made {k} grown {d} y rolls closes here = subst k.Is rolls (grown.made d y closes here)

pub is_width_type : (width : Width) → IsWidth width → IsType (type_views.made-Bits width)
is_width_type width here = made type_grown (type_expression.Bits width) (type_views.rolls-Bits width) refl here

pub is_named_type : (n : Name) → IsName n → IsType (type_views.made-Named n)
is_named_type n here = made type_grown (type_expression.Named n) (type_views.rolls-Named n) refl here

pub is_array_type : (place : ℕ) (element : TypeExpression) (size : Number) → IsType element → NumberFits size → IsType (type_views.Array place element size)
is_array_type place element size element_is here =
    made type_grown (type_expression.Array place (element, element_is) size) (type_views.rolls-Array place element size) refl here

pub is_constant_struct :
    (of : Name) (fields : List ConstantField) (close : ℕ) → All IsConstantField fields →
    IsConstantLayer (constant.Struct of fields close) → IsConstant (constant_views.Struct of fields close)
is_constant_struct of fields close fields_is here =
    made constant_grown (constant.Struct of (paired IsConstantField fields fields_is) close)
    (constant_views.rolls-Struct of fields close)
    (λ i. constant.Struct of (paired_are IsConstantField fields fields_is i) close) here

pub is_constant_array :
    (place : ℕ) (elements : List Constant) → All IsConstant elements →
    IsConstantLayer (constant.Array place elements) → IsConstant (constant_views.Array place elements)
is_constant_array place elements elements_is here =
    made constant_grown (constant.Array place (paired IsConstant elements elements_is))
    (constant_views.rolls-Array place elements)
    (λ i. constant.Array place (paired_are IsConstant elements elements_is i)) here

pub is_constant_literal : (l : Literal) → IsConstantLayer (constant.Literal l) → IsConstant (constant_views.made-Literal l)
is_constant_literal l here = made constant_grown (constant.Literal l) (constant_views.rolls-Literal l) refl here

pub is_constant_member : (of : Name) (member : Name) → IsConstantLayer (constant.Member of member) → IsConstant (constant_views.made-Member of member)
is_constant_member of member here =
    made constant_grown (constant.Member of member) (constant_views.rolls-Member of member) refl here

pub is_if :
    (arms : List Arm) (otherwise : Option Block) → All IsArm arms → IfSome otherwise IsBlock →
    IsExpressionLayer (expression.If arms otherwise) → IsExpression (views.If arms otherwise)
is_if arms None arms_is last here =
    made expression_grown (expression.If (paired IsArm arms arms_is) None)
    (views.rolls-If arms None) (λ i. expression.If (paired_are IsArm arms arms_is i) None) here
is_if arms (Some block) arms_is last here =
    made expression_grown (expression.If (paired IsArm arms arms_is) (Some (block, last)))
    (views.rolls-If arms (Some block)) (λ i. expression.If (paired_are IsArm arms arms_is i) (Some block)) here

is_chain :
    (first : Expression) (rest : List Operand) → IsExpression first → All IsOperand rest →
    IsExpressionLayer (expression.Chain first rest) → IsExpression (views.Chain first rest)
is_chain first rest first_is rest_is here =
    made expression_grown (expression.Chain (first, first_is) (paired IsOperand rest rest_is))
    (views.rolls-Chain first rest) (λ i. expression.Chain first (paired_are IsOperand rest rest_is i)) here

pub is_unary :
    (prefixes : List Prefix) (operand : Expression) → IsExpression operand →
    IsExpressionLayer (expression.Unary prefixes operand) → IsExpression (views.Unary prefixes operand)
is_unary prefixes operand operand_is here =
    made expression_grown (expression.Unary prefixes (operand, operand_is))
    (views.rolls-Unary prefixes operand) refl here

pub is_postfix :
    (primary : Expression) (suffixes : List Suffix) → IsExpression primary →
    IsExpressionLayer (expression.Postfix primary suffixes) → IsExpression (views.Postfix primary suffixes)
is_postfix primary suffixes primary_is here =
    made expression_grown (expression.Postfix (primary, primary_is) suffixes)
    (views.rolls-Postfix primary suffixes) refl here

pub is_literal : (l : Literal) → IsExpressionLayer (expression.Literal l) → IsExpression (views.made-Literal l)
is_literal l here = made expression_grown (expression.Literal l) (views.rolls-Literal l) refl here

pub is_name : (n : Name) → IsExpressionLayer (expression.Name n) → IsExpression (views.made-Name n)
is_name n here = made expression_grown (expression.Name n) (views.rolls-Name n) refl here

pub is_call :
    (called : Name) (arguments : List Expression) → All IsExpression arguments →
    IsExpressionLayer (expression.Call called arguments) → IsExpression (views.Call called arguments)
is_call called arguments arguments_is here =
    made expression_grown (expression.Call called (paired IsExpression arguments arguments_is))
    (views.rolls-Call called arguments)
    (λ i. expression.Call called (paired_are IsExpression arguments arguments_is i)) here

pub is_member : (of : Name) (member : Name) → IsExpressionLayer (expression.Member of member) → IsExpression (views.made-Member of member)
is_member of member here = made expression_grown (expression.Member of member) (views.rolls-Member of member) refl here

pub is_struct :
    (of : Name) (fields : List FieldValue) (close : ℕ) → All IsFieldValue fields →
    IsExpressionLayer (expression.Struct of fields close) → IsExpression (views.Struct of fields close)
is_struct of fields close fields_is here =
    made expression_grown (expression.Struct of (paired IsFieldValue fields fields_is) close)
    (views.rolls-Struct of fields close)
    (λ i. expression.Struct of (paired_are IsFieldValue fields fields_is i) close) here

pub is_array : (place : ℕ) (elements : List Expression) → All IsExpression elements → IsExpressionLayer (expression.Array place elements) → IsExpression (views.Array place elements)
is_array place elements elements_is here =
    made expression_grown (expression.Array place (paired IsExpression elements elements_is))
    (views.rolls-Array place elements)
    (λ i. expression.Array place (paired_are IsExpression elements elements_is i)) here

pub is_parentheses : (place : ℕ) (inside : Expression) → IsExpression inside → IsExpressionLayer (expression.Parentheses place inside) → IsExpression (views.Parentheses place inside)
is_parentheses place inside inside_is here =
    made expression_grown (expression.Parentheses place (inside, inside_is))
    (views.rolls-Parentheses place inside) refl here

pub is_block_expression : (block : Block) → IsBlock block → IsExpressionLayer (expression.Block block) → IsExpression (views.Block block)
is_block_expression block block_is here =
    made expression_grown (expression.Block (block, block_is)) (views.rolls-Block block) refl here

pub is_read : (place : ℕ) (port : ℕ) (register : Name) → IsExpressionLayer (expression.Read place port register) → IsExpression (views.made-Read place port register)
is_read place port register here =
    made expression_grown (expression.Read place port register) (views.rolls-Read place port register) refl here

pub is_write :
    (place : ℕ) (port : ℕ) (register : Name) (value : Expression) → IsExpression value →
    IsExpressionLayer (expression.Write place port register value) →
    IsExpression (views.Write place port register value)
is_write place port register value value_is here =
    made expression_grown (expression.Write place port register (value, value_is))
    (views.rolls-Write place port register value) refl here

pub is_abort : (place : ℕ) → IsExpressionLayer (expression.Abort place) → IsExpression (views.made-Abort place)
is_abort place here = made expression_grown (expression.Abort place) (views.rolls-Abort place) refl here

pub is_pack : (place : ℕ) (value : Expression) → IsExpression value → IsExpressionLayer (expression.Pack place value) → IsExpression (views.Pack place value)
is_pack place value value_is here =
    made expression_grown (expression.Pack place (value, value_is))
    (views.rolls-Pack place value) refl here

pub is_unpack :
    (place : ℕ) (to : TypeExpression) (value : Expression) → IsExpression value →
    IsExpressionLayer (expression.Unpack place to value) → IsExpression (views.Unpack place to value)
is_unpack place to value value_is here =
    made expression_grown (expression.Unpack place to (value, value_is))
    (views.rolls-Unpack place to value) refl here

pub is_extend :
    (place : ℕ) (extension : Extension) (value : Expression) (width : Number) → IsExpression value →
    IsExpressionLayer (expression.Extend place extension value width) →
    IsExpression (views.Extend place extension value width)
is_extend place extension value width value_is here =
    made expression_grown (expression.Extend place extension (value, value_is) width)
    (views.rolls-Extend place extension value width) refl here

pub is_compare :
    (place : ℕ) (comparison : SignedComparison) (left : Expression) (right : Expression) →
    IsExpression left → IsExpression right →
    IsExpressionLayer (expression.Compare place comparison left right) →
    IsExpression (views.Compare place comparison left right)
is_compare place comparison left right left_is right_is here =
    made expression_grown (expression.Compare place comparison (left, left_is) (right, right_is))
    (views.rolls-Compare place comparison left right) refl here

pub is_update :
    (place : ℕ) (whole : Expression) (part : UpdatedPart) (value : Expression) →
    IsExpression whole → IsExpression value → IsExpressionLayer (expression.Update place whole part value) →
    IsExpression (views.Update place whole part value)
is_update place whole part value whole_is value_is here =
    made expression_grown (expression.Update place (whole, whole_is) part (value, value_is))
    (views.rolls-Update place whole part value) refl here

pub is_let : (n : Name) (value : Expression) → IsName n → IsExpression value → IsStatement (views.made-Let n value)
is_let n value named value_is =
    made statement_grown (expression.Let n (value, value_is)) (views.rolls-Let n value) refl named

pub is_do : (value : Expression) → IsExpression value → IsStatement (views.made-Do value)
is_do value value_is = made statement_grown (expression.Do (value, value_is)) (views.rolls-Do value) refl tt

pub is_arm :
    (place : ℕ) (condition : Expression) (body : Block) → IsExpression condition → 0 < level condition → IsBlock body →
    IsArm (roll-Arm (record { place = place; condition = condition; body = body }))
is_arm place condition body condition_is above body_is =
    made arm_grown (record { place = place; condition = (condition, condition_is); body = (body, body_is) }) refl refl above

pub is_block : (place : ℕ) (statements : List Statement) (value : Option Expression) → All IsStatement statements → IfSome value IsExpression →
    IsBlock (roll-Block (record { place = place; statements = statements; value = value }))
is_block place statements None statements_is value_is =
    made block_grown (record { place = place; statements = paired IsStatement statements statements_is; value = None }) refl
    (λ i. record { place = place; statements = paired_are IsStatement statements statements_is i; value = None }) tt
is_block place statements (Some v) statements_is value_is =
    let last = Some (v, value_is) in
    made block_grown (record { place = place; statements = paired IsStatement statements statements_is; value = last }) refl
    (λ i. record { place = place; statements = paired_are IsStatement statements statements_is i; value = Some v }) tt

pub is_field_value : (n : Name) (value : Expression) → IsName n → IsExpression value → IsFieldValue (roll-FieldValue (record { name = n; value = value }))
is_field_value n value named value_is =
    made field_value_grown (record { name = n; value = (value, value_is) }) refl refl named

pub is_operand : (operator : BinaryOperator) (operand : Expression) → IsExpression operand → IsOperand (roll-Operand (record { operator = operator; operand = operand }))
is_operand operator operand operand_is =
    made operand_grown (record { operator = operator; operand = (operand, operand_is) }) refl refl tt

pub is_constant_field : (n : Name) (value : Constant) → IsName n → IsConstant value → IsConstantField (roll-ConstantField (record { name = n; value = value }))
is_constant_field n value named value_is =
    made constant_field_grown (record { name = n; value = (value, value_is) }) refl refl named

pub is_choice : (rule : Name) (taken other : Scheduler) → IsName rule → IsScheduler taken → IsScheduler other → IsChoice (roll-Choice (record { rule = rule; then = taken; otherwise = other }))
is_choice rule taken other named taken_is other_is =
    made choice_grown (record { rule = rule; then = (taken, taken_is); otherwise = (other, other_is) }) refl refl named

pub is_scheduler :
    (rules : List Name) (last : Option Choice) → All IsName rules →
    IfSome last IsChoice → IsScheduler (roll-Scheduler (record { rules = rules; last = last }))
is_scheduler rules None named last_is = made scheduler_grown (record { rules = rules; last = None }) refl refl named
is_scheduler rules (Some choice) named last_is =
    made scheduler_grown (record { rules = rules; last = Some (choice, last_is) }) refl refl named

-- an operand stands where its chain is looser
pub is_operand_at :
    (k : ℕ) (operator : BinaryOperator) (operand : Expression) → level_of operator ≡ k → k < level operand →
    IsOperandAt k (roll-Operand (record { operator = operator; operand = operand }))
is_operand_at k operator operand same above =
    subst (λ layer. (level_of layer.operator ≡ k) × (k < level layer.operand))
    (sym (out-roll-Operand (record { operator = operator; operand = operand }))) (same, above)

-- the operands of a chain have its level
chain_layer :
    (k : ℕ) (first : Expression) (rest : List Operand) → IsNonempty rest → All (IsOperandAt k) rest → k < level first →
    IsExpressionLayer (expression.Chain first rest) × (level (views.Chain first rest) ≡ k)
chain_layer k first [] some fit above = absurd (omega (arith, some))
chain_layer k first (operand ∷ operands) some fit above =
    let same : level_of (out-Operand operand).operator ≡ k = (All-head (IsOperandAt k) operand operands fit).0 in
    let layer : IsExpressionLayer (expression.Chain first (operand ∷ operands)) =
    (some, subst (λ n. n < level first) (sym same) above, subst (λ n. All (IsOperandAt n) (operand ∷ operands)) (sym same) fit) in
    (layer, rw (views.outs-Chain first (operand ∷ operands)) same)

pub is_chain_of :
    (k : ℕ) (first : Expression) (rest : List Operand) → IsNonempty rest → All (IsOperandIn k) rest → k < level first →
    IsExpression first → IsExpression (views.Chain first rest)
is_chain_of k first rest some all above is =
    is_chain first rest is (λ i d lt. (all i d lt).0) (chain_layer k first rest some (λ i d lt. (all i d lt).1) above).0

pub level_chain_of :
    (k : ℕ) (first : Expression) (rest : List Operand) → IsNonempty rest → All (IsOperandIn k) rest → k < level first →
    level (views.Chain first rest) ≡ k
level_chain_of k first rest some all above = (chain_layer k first rest some (λ i d lt. (all i d lt).1) above).1

pub level_unary : (prefixes : List Prefix) (operand : Expression) → level (views.Unary prefixes operand) ≡ 10
level_unary prefixes operand = rw (views.outs-Unary prefixes operand)

pub level_postfix : (primary : Expression) (suffixes : List Suffix) → level (views.Postfix primary suffixes) ≡ 11
level_postfix primary suffixes = rw (views.outs-Postfix primary suffixes)

pub level_literal : (l : Literal) → level (views.made-Literal l) ≡ 12
level_literal l = rw (views.outs-Literal l)

pub level_name : (n : Name) → level (views.made-Name n) ≡ 12
level_name n = rw (views.outs-Name n)

pub level_call : (called : Name) (arguments : List Expression) → level (views.Call called arguments) ≡ 12
level_call called arguments = rw (views.outs-Call called arguments)

pub level_member : (of : Name) (member : Name) → level (views.made-Member of member) ≡ 12
level_member of member = rw (views.outs-Member of member)

pub level_struct : (of : Name) (fields : List FieldValue) (close : ℕ) → level (views.Struct of fields close) ≡ 12
level_struct of fields close = rw (views.outs-Struct of fields close)

pub level_array : (place : ℕ) (elements : List Expression) → level (views.Array place elements) ≡ 12
level_array place elements = rw (views.outs-Array place elements)

pub level_parentheses : (place : ℕ) (inside : Expression) → level (views.Parentheses place inside) ≡ 12
level_parentheses place inside = rw (views.outs-Parentheses place inside)

pub level_block : (block : Block) → level (views.Block block) ≡ 12
level_block block = rw (views.outs-Block block)

pub level_read : (place : ℕ) (port : ℕ) (register : Name) → level (views.made-Read place port register) ≡ 12
level_read place port register = rw (views.outs-Read place port register)

pub level_write : (place : ℕ) (port : ℕ) (register : Name) (value : Expression) → level (views.Write place port register value) ≡ 12
level_write place port register value = rw (views.outs-Write place port register value)

pub level_abort : (place : ℕ) → level (views.made-Abort place) ≡ 12
level_abort place = rw (views.outs-Abort place)

pub level_pack : (place : ℕ) (value : Expression) → level (views.Pack place value) ≡ 12
level_pack place value = rw (views.outs-Pack place value)

pub level_unpack : (place : ℕ) (to : TypeExpression) (value : Expression) → level (views.Unpack place to value) ≡ 12
level_unpack place to value = rw (views.outs-Unpack place to value)

pub level_extend : (place : ℕ) (extension : Extension) (value : Expression) (width : Number) → level (views.Extend place extension value width) ≡ 12
level_extend place extension value width = rw (views.outs-Extend place extension value width)

pub level_compare : (place : ℕ) (comparison : SignedComparison) (left : Expression) (right : Expression) → level (views.Compare place comparison left right) ≡ 12
level_compare place comparison left right = rw (views.outs-Compare place comparison left right)

pub level_update : (place : ℕ) (whole : Expression) (part : UpdatedPart) (value : Expression) → level (views.Update place whole part value) ≡ 12
level_update place whole part value = rw (views.outs-Update place whole part value)
