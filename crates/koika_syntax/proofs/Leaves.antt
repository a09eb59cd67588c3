-- The leaves of a part, by the leaves of its parts.
use Rattle.std.proofs.Common.{◌≡◌, ℕ, List, [], ◌∷◌, ◌++◌, append_assoc, append-nil, map, Option, Some, None, ap, sym, ◌∙◌}
use Rattle.koika_syntax.specs.Grammar.{constant_step, constant_field_step, constant_leaves, struct_leaves, array_leaves, call_leaves, last_leaves, part_leaves, rule_leaves, expression_step, statement_step, arm_step, block_step, field_value_step, operand_step, block_leaves, choice_step, scheduler_step, scheduler_leaves}
use Rattle.koika_syntax.specs.inner.Grammar.{constant_field_leaves, expression_leaves, statement_leaves, arm_leaves, field_value_leaves, operand_leaves, choice_leaves}
use Rattle.koika_syntax.specs.Tree.{Leaf, name_leaves, sign, word, placed, symbol, keyword, with_between, all_of, in_braces, in_parentheses, binary_symbol, comparison_word}
use Rattle.std.specs.List.{flat_map}
use Rattle.koika_syntax.specs.declared.keyword.Keyword.TheVariants as keywords
use Rattle.koika_syntax.specs.declared.operator.SignedComparison.{SignedComparison}
use Rattle.koika_syntax.specs.declared.tree.UpdatedPart.{UpdatedPart}
use Rattle.koika_syntax.specs.declared.tree.Arm.{Arm, out-Arm, fold_out-Arm}
use Rattle.koika_syntax.specs.declared.tree.Block.{Block, out-Block, roll-Block, roll-out-Block, fold-roll-Block}
use Rattle.koika_syntax.specs.declared.tree.Choice.{Choice, out-Choice, fold_out-Choice}
use Rattle.koika_syntax.specs.declared.tree.Expression.{Expression, fold-roll-Expression}
use Rattle.koika_syntax.specs.declared.tree.Expression.TheOpen as expression
use Rattle.koika_syntax.specs.declared.tree.Expression.TheViews as views
use Rattle.koika_syntax.specs.declared.tree.FieldValue.{FieldValue, out-FieldValue, fold_out-FieldValue}
use Rattle.koika_syntax.specs.declared.tree.Operand.{Operand, out-Operand, fold_out-Operand}
use Rattle.koika_syntax.specs.declared.tree.Scheduler.{Scheduler, out-Scheduler, roll-Scheduler, roll-out-Scheduler, fold-roll-Scheduler}
use Rattle.koika_syntax.specs.declared.tree.Statement.{Statement}
use Rattle.koika_syntax.specs.declared.symbol.Symbol.TheVariants as symbols
use Rattle.koika_syntax.specs.declared.tree.Name.{Name}
use Rattle.koika_syntax.specs.declared.tree.Constant.{Constant, Struct, Array, fold-roll-Constant}
use Rattle.koika_syntax.specs.declared.tree.Constant.TheOpen as constant
use Rattle.koika_syntax.specs.declared.tree.Constant.TheViews.{rolls-Struct, rolls-Array}
use Rattle.koika_syntax.specs.declared.tree.ConstantField.{ConstantField, out-ConstantField, fold_out-ConstantField}

abbrev Leaves : Type 0
Leaves = List Leaf

pub struct_constant : (of : Name) (fields : List ConstantField) (close : ℕ) →
    constant_leaves (Struct of fields close) ≡ struct_leaves of (map constant_field_leaves fields) close
unfolding constant_leaves constant_field_leaves
struct_constant of fields close =
    ap constant_leaves (sym (rolls-Struct of fields close)) ∙ fold-roll-Constant Leaves Leaves constant_step constant_field_step (constant.Struct of fields close)

pub array_constant : (place : ℕ) (elements : List Constant) →
    constant_leaves (Array place elements) ≡ array_leaves place (map constant_leaves elements)
unfolding constant_leaves
array_constant place elements =
    ap constant_leaves (sym (rolls-Array place elements)) ∙ fold-roll-Constant Leaves Leaves constant_step constant_field_step (constant.Array place elements)

pub constant_field : (field : ConstantField) →
    constant_field_leaves field ≡ name_leaves (out-ConstantField field).name ++ sign symbols.Colon ++ constant_leaves (out-ConstantField field).value
unfolding constant_leaves constant_field_leaves
constant_field field = fold_out-ConstantField Leaves Leaves constant_step constant_field_step field

pub if_expression : (arms : List Arm) (otherwise : Option Block) →
    expression_leaves (views.If arms otherwise) ≡ with_between (word keywords.Else) (map arm_leaves arms) ++ last_leaves otherwise (λ block. word keywords.Else ++ block_leaves block)
unfolding expression_leaves statement_leaves arm_leaves block_leaves field_value_leaves operand_leaves
if_expression arms None = ap expression_leaves (sym (views.rolls-If arms None)) ∙ fold-roll-Expression Leaves Leaves Leaves Leaves Leaves Leaves expression_step statement_step arm_step block_step field_value_step operand_step (expression.If arms None)
if_expression arms (Some block) = ap expression_leaves (sym (views.rolls-If arms (Some block))) ∙ fold-roll-Expression Leaves Leaves Leaves Leaves Leaves Leaves expression_step statement_step arm_step block_step field_value_step operand_step (expression.If arms (Some block))

pub chain_expression : (first : Expression) (rest : List Operand) →
    expression_leaves (views.Chain first rest) ≡ expression_leaves first ++ all_of (map operand_leaves rest)
unfolding expression_leaves statement_leaves arm_leaves block_leaves field_value_leaves operand_leaves
chain_expression first rest = ap expression_leaves (sym (views.rolls-Chain first rest)) ∙ fold-roll-Expression Leaves Leaves Leaves Leaves Leaves Leaves expression_step statement_step arm_step block_step field_value_step operand_step (expression.Chain first rest)

pub call_expression : (called : Name) (arguments : List Expression) →
    expression_leaves (views.Call called arguments) ≡ call_leaves (name_leaves called) (map expression_leaves arguments)
unfolding expression_leaves statement_leaves arm_leaves block_leaves field_value_leaves operand_leaves
call_expression called arguments = ap expression_leaves (sym (views.rolls-Call called arguments)) ∙ fold-roll-Expression Leaves Leaves Leaves Leaves Leaves Leaves expression_step statement_step arm_step block_step field_value_step operand_step (expression.Call called arguments)

pub struct_expression : (of : Name) (fields : List FieldValue) (close : ℕ) →
    expression_leaves (views.Struct of fields close) ≡ struct_leaves of (map field_value_leaves fields) close
unfolding expression_leaves statement_leaves arm_leaves block_leaves field_value_leaves operand_leaves
struct_expression of fields close = ap expression_leaves (sym (views.rolls-Struct of fields close)) ∙ fold-roll-Expression Leaves Leaves Leaves Leaves Leaves Leaves expression_step statement_step arm_step block_step field_value_step operand_step (expression.Struct of fields close)

pub array_expression : (place : ℕ) (elements : List Expression) →
    expression_leaves (views.Array place elements) ≡ array_leaves place (map expression_leaves elements)
unfolding expression_leaves statement_leaves arm_leaves block_leaves field_value_leaves operand_leaves
array_expression place elements = ap expression_leaves (sym (views.rolls-Array place elements)) ∙ fold-roll-Expression Leaves Leaves Leaves Leaves Leaves Leaves expression_step statement_step arm_step block_step field_value_step operand_step (expression.Array place elements)

block_at : (place : ℕ) (statements : List Statement) (value : Option Expression) →
    block_leaves (roll-Block (record { place = place; statements = statements; value = value })) ≡ placed (symbol symbols.LeftBrace) place ++ all_of (map statement_leaves statements) ++ last_leaves value expression_leaves ++ sign symbols.RightBrace
unfolding expression_leaves statement_leaves arm_leaves block_leaves field_value_leaves operand_leaves
block_at place statements None = fold-roll-Block Leaves Leaves Leaves Leaves Leaves Leaves expression_step statement_step arm_step block_step field_value_step operand_step (record { place = place; statements = statements; value = None })
block_at place statements (Some last) = fold-roll-Block Leaves Leaves Leaves Leaves Leaves Leaves expression_step statement_step arm_step block_step field_value_step operand_step (record { place = place; statements = statements; value = Some last })

pub block : (b : Block) →
    block_leaves b ≡ placed (symbol symbols.LeftBrace) (out-Block b).place ++ all_of (map statement_leaves (out-Block b).statements) ++ last_leaves (out-Block b).value expression_leaves ++ sign symbols.RightBrace
block b = ap block_leaves (sym (roll-out-Block b)) ∙ block_at (out-Block b).place (out-Block b).statements (out-Block b).value

pub arm : (a : Arm) → arm_leaves a ≡ placed (keyword keywords.If) (out-Arm a).place ++ expression_leaves (out-Arm a).condition ++ block_leaves (out-Arm a).body
unfolding expression_leaves statement_leaves arm_leaves block_leaves field_value_leaves operand_leaves
arm a = fold_out-Arm Leaves Leaves Leaves Leaves Leaves Leaves expression_step statement_step arm_step block_step field_value_step operand_step a

pub field_value : (field : FieldValue) → field_value_leaves field ≡ name_leaves (out-FieldValue field).name ++ sign symbols.Colon ++ expression_leaves (out-FieldValue field).value
unfolding expression_leaves statement_leaves arm_leaves block_leaves field_value_leaves operand_leaves
field_value field = fold_out-FieldValue Leaves Leaves Leaves Leaves Leaves Leaves expression_step statement_step arm_step block_step field_value_step operand_step field

pub operand : (o : Operand) → operand_leaves o ≡ sign (binary_symbol (out-Operand o).operator) ++ expression_leaves (out-Operand o).operand
unfolding expression_leaves statement_leaves arm_leaves block_leaves field_value_leaves operand_leaves
operand o = fold_out-Operand Leaves Leaves Leaves Leaves Leaves Leaves expression_step statement_step arm_step block_step field_value_step operand_step o

scheduler_at : (rules : List Name) (last : Option Choice) →
    scheduler_leaves (roll-Scheduler (record { rules = rules; last = last })) ≡ flat_map rule_leaves rules ++ last_leaves last choice_leaves
unfolding scheduler_leaves choice_leaves
scheduler_at rules None = fold-roll-Scheduler Leaves Leaves choice_step scheduler_step (record { rules = rules; last = None })
scheduler_at rules (Some choice) = fold-roll-Scheduler Leaves Leaves choice_step scheduler_step (record { rules = rules; last = Some choice })

pub scheduler : (s : Scheduler) → scheduler_leaves s ≡ flat_map rule_leaves (out-Scheduler s).rules ++ last_leaves (out-Scheduler s).last choice_leaves
scheduler s = ap scheduler_leaves (sym (roll-out-Scheduler s)) ∙ scheduler_at (out-Scheduler s).rules (out-Scheduler s).last

pub choice : (c : Choice) → choice_leaves c ≡ word keywords.Try ++ name_leaves (out-Choice c).rule ++ word keywords.Then ++ in_braces (scheduler_leaves (out-Choice c).then) ++ word keywords.Else ++ in_braces (scheduler_leaves (out-Choice c).otherwise)
unfolding scheduler_leaves choice_leaves
choice c = fold_out-Choice Leaves Leaves choice_step scheduler_step c

pub block_expression : (b : Block) → expression_leaves (views.Block b) ≡ block_leaves b
unfolding expression_leaves statement_leaves arm_leaves block_leaves field_value_leaves operand_leaves
block_expression b =
    ap expression_leaves (sym (views.rolls-Block b)) ∙ fold-roll-Expression Leaves Leaves Leaves Leaves Leaves Leaves expression_step statement_step arm_step block_step field_value_step operand_step (expression.Block b)

two : (s x y : List Leaf) → with_between s (x ∷ y ∷ []) ≡ x ++ s ++ y
unfolding with_between
two s x y = ap (λ t. x ++ t) (append-nil (s ++ y)) ∙ sym (append_assoc x s y)

three : (s x y z : List Leaf) → with_between s (x ∷ y ∷ z ∷ []) ≡ x ++ s ++ y ++ s ++ z
unfolding with_between
three s x y z = ap (λ t. x ++ ((s ++ y) ++ t)) (append-nil (s ++ z)) ∙ sym (append_assoc x (s ++ y) (s ++ z)) ∙ ap (λ t. t ++ (s ++ z)) (sym (append_assoc x s y)) ∙ sym (append_assoc (x ++ s ++ y) s z)

pub compare_expression : (place : ℕ) (comparison : SignedComparison) (left right : Expression) →
    expression_leaves (views.Compare place comparison left right) ≡ placed (keyword (comparison_word comparison)) place ++ in_parentheses (expression_leaves left ++ sign symbols.Comma ++ expression_leaves right)
unfolding expression_leaves
compare_expression place comparison left right =
    ap expression_leaves (sym (views.rolls-Compare place comparison left right)) ∙ fold-roll-Expression Leaves Leaves Leaves Leaves Leaves Leaves expression_step statement_step arm_step block_step field_value_step operand_step (expression.Compare place comparison left right) ∙
    ap (λ inside. placed (keyword (comparison_word comparison)) place ++ in_parentheses inside) (two (sign symbols.Comma) (expression_leaves left) (expression_leaves right))

pub update_expression : (place : ℕ) (whole : Expression) (part : UpdatedPart) (value : Expression) →
    expression_leaves (views.Update place whole part value) ≡ placed (keyword keywords.Update) place ++ in_parentheses (expression_leaves whole ++ sign symbols.Comma ++ part_leaves part ++ sign symbols.Comma ++ expression_leaves value)
unfolding expression_leaves
update_expression place whole part value =
    ap expression_leaves (sym (views.rolls-Update place whole part value)) ∙ fold-roll-Expression Leaves Leaves Leaves Leaves Leaves Leaves expression_step statement_step arm_step block_step field_value_step operand_step (expression.Update place whole part value) ∙
    ap (λ inside. placed (keyword keywords.Update) place ++ in_parentheses inside) (three (sign symbols.Comma) (expression_leaves whole) (part_leaves part) (expression_leaves value))

-- the leaves of each part that holds lists
pub ruleset parts_of_constants = (struct_constant, array_constant, constant_field)

pub ruleset parts_of_expressions =
    (if_expression, chain_expression, call_expression, struct_expression, array_expression, block_expression, compare_expression, update_expression, block, arm, field_value, operand)

pub ruleset parts_of_schedulers = (scheduler, choice)
