-- The parts of a tree of the grammar that the grammar names no predicate for.
use Rattle.std.specs.Prelude.{ℕ}
use Rattle.koika_syntax.specs.Grammar.{IsOperandAt, IsConstantLayer, IsConstantFieldLayer, IsExpressionLayer, IsStatementLayer, IsArmLayer, IsBlockLayer, IsFieldValueLayer, IsOperandLayer, IsChoiceLayer, IsSchedulerLayer}
use Rattle.koika_syntax.specs.declared.tree.Arm.{Arm, every-Arm}
use Rattle.koika_syntax.specs.declared.tree.Choice.{Choice, every-Choice}
use Rattle.koika_syntax.specs.declared.tree.ConstantField.{ConstantField, every-ConstantField}
use Rattle.koika_syntax.specs.declared.tree.FieldValue.{FieldValue, every-FieldValue}
use Rattle.koika_syntax.specs.declared.tree.Operand.{Operand, every-Operand}
use Rattle.koika_syntax.specs.declared.tree.Statement.{Statement, every-Statement}

-- a field of a constant, and all in it
unfoldable pub IsConstantField : ConstantField → Type 0
IsConstantField = every-ConstantField IsConstantLayer IsConstantFieldLayer

-- a part of an expression, and all in it
unfoldable pub IsStatement : Statement → Type 0
IsStatement = every-Statement IsExpressionLayer IsStatementLayer IsArmLayer IsBlockLayer IsFieldValueLayer IsOperandLayer

unfoldable pub IsArm : Arm → Type 0
IsArm = every-Arm IsExpressionLayer IsStatementLayer IsArmLayer IsBlockLayer IsFieldValueLayer IsOperandLayer

unfoldable pub IsFieldValue : FieldValue → Type 0
IsFieldValue = every-FieldValue IsExpressionLayer IsStatementLayer IsArmLayer IsBlockLayer IsFieldValueLayer IsOperandLayer

unfoldable pub IsOperand : Operand → Type 0
IsOperand = every-Operand IsExpressionLayer IsStatementLayer IsArmLayer IsBlockLayer IsFieldValueLayer IsOperandLayer

-- an operand of a chain of this level
abbrev pub IsOperandIn : ℕ → Operand → Type 0
IsOperandIn k operand = IsOperand operand × IsOperandAt k operand

-- a choice of a scheduler, and all in it
unfoldable pub IsChoice : Choice → Type 0
IsChoice = every-Choice IsChoiceLayer IsSchedulerLayer
