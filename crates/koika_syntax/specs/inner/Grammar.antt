-- What private functions alone cite of this crate's `Grammar`.
use Rattle.std.specs.Prelude.{List}
use Rattle.koika_syntax.specs.Tree.{Leaf}
use Rattle.koika_syntax.specs.declared.tree.Arm.{Arm, fold-Arm}
use Rattle.koika_syntax.specs.declared.tree.Choice.{Choice, fold-Choice}
use Rattle.koika_syntax.specs.declared.tree.ConstantField.{ConstantField, fold-ConstantField}
use Rattle.koika_syntax.specs.declared.tree.Expression.{Expression, fold-Expression, every-Expression}
use Rattle.koika_syntax.specs.declared.tree.FieldValue.{FieldValue, fold-FieldValue}
use Rattle.koika_syntax.specs.declared.tree.Operand.{Operand, fold-Operand}
use Rattle.koika_syntax.specs.declared.tree.Statement.{Statement, fold-Statement}
use Rattle.koika_syntax.specs.Grammar.{Leaves, constant_step, constant_field_step, block_step, statement_step, arm_step, operand_step, expression_step, field_value_step, choice_step, scheduler_step, IsExpressionLayer, IsStatementLayer, IsArmLayer, IsBlockLayer, IsFieldValueLayer, IsOperandLayer}

unfoldable pub constant_field_leaves : ConstantField → List Leaf
constant_field_leaves = fold-ConstantField Leaves Leaves constant_step constant_field_step

-- the tokens of each part of an expression
unfoldable pub expression_leaves : Expression → List Leaf
expression_leaves = fold-Expression Leaves Leaves Leaves Leaves Leaves Leaves expression_step statement_step arm_step block_step field_value_step operand_step

unfoldable pub statement_leaves : Statement → List Leaf
statement_leaves = fold-Statement Leaves Leaves Leaves Leaves Leaves Leaves expression_step statement_step arm_step block_step field_value_step operand_step

unfoldable pub arm_leaves : Arm → List Leaf
arm_leaves = fold-Arm Leaves Leaves Leaves Leaves Leaves Leaves expression_step statement_step arm_step block_step field_value_step operand_step

unfoldable pub field_value_leaves : FieldValue → List Leaf
field_value_leaves = fold-FieldValue Leaves Leaves Leaves Leaves Leaves Leaves expression_step statement_step arm_step block_step field_value_step operand_step

unfoldable pub operand_leaves : Operand → List Leaf
operand_leaves = fold-Operand Leaves Leaves Leaves Leaves Leaves Leaves expression_step statement_step arm_step block_step field_value_step operand_step

unfoldable pub choice_leaves : Choice → List Leaf
choice_leaves = fold-Choice Leaves Leaves choice_step scheduler_step

unfoldable pub IsExpression : Expression → Type 0
IsExpression = every-Expression IsExpressionLayer IsStatementLayer IsArmLayer IsBlockLayer IsFieldValueLayer IsOperandLayer
