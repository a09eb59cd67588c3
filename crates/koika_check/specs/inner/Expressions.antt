-- What private functions alone cite of this crate's `Expressions`.
use Rattle.koika_syntax.specs.declared.tree.Arm.{Arm, fold-Arm}
use Rattle.koika_syntax.specs.declared.tree.Expression.{Expression, fold-Expression}
use Rattle.koika_syntax.specs.declared.tree.FieldValue.{FieldValue, fold-FieldValue}
use Rattle.koika_syntax.specs.declared.tree.Operand.{Operand, fold-Operand}
use Rattle.koika_syntax.specs.declared.tree.Statement.{Statement, fold-Statement}
use Rattle.koika_check.specs.Expressions.{ExpressionTyping, StatementTyping, Armed, Fielded, Joining, expression_step, statement_step, arm_step, block_step, field_value_step, operand_step}

-- ---- what whole expressions evaluate to

unfoldable pub expression_in : Expression → ExpressionTyping
expression_in = fold-Expression ExpressionTyping StatementTyping Armed ExpressionTyping Fielded Joining expression_step statement_step arm_step block_step field_value_step operand_step

unfoldable pub statement_in : Statement → StatementTyping
statement_in = fold-Statement ExpressionTyping StatementTyping Armed ExpressionTyping Fielded Joining expression_step statement_step arm_step block_step field_value_step operand_step

unfoldable pub arm_in : Arm → Armed
arm_in = fold-Arm ExpressionTyping StatementTyping Armed ExpressionTyping Fielded Joining expression_step statement_step arm_step block_step field_value_step operand_step

unfoldable pub field_value_in : FieldValue → Fielded
field_value_in = fold-FieldValue ExpressionTyping StatementTyping Armed ExpressionTyping Fielded Joining expression_step statement_step arm_step block_step field_value_step operand_step

unfoldable pub operand_in : Operand → Joining
operand_in = fold-Operand ExpressionTyping StatementTyping Armed ExpressionTyping Fielded Joining expression_step statement_step arm_step block_step field_value_step operand_step
