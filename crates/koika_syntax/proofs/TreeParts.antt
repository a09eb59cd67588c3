-- What holds of each part of an expression and of a constant, one level down.
use Rattle.std.proofs.Common.{ℕ, Option, Some, None, IfSome, List, [], ◌∷◌, map}
use Rattle.std.specs.Prelude.{⊤}
use Rattle.std.specs.List.{AllByRecursion}
use Rattle.koika_syntax.specs.Grammar.{IsConstantLayer, IsConstantFieldLayer, IsExpressionLayer, IsStatementLayer, IsArmLayer, IsBlockLayer, IsFieldValueLayer, IsOperandLayer}
use Rattle.koika_syntax.specs.declared.tree.Expression.{Expression, Expression-F, map-Expression}
use Rattle.koika_syntax.specs.declared.tree.Statement.{Statement, Statement-F, map-Statement, every-Statement}
use Rattle.koika_syntax.specs.declared.tree.Arm.{Arm, Arm-F, map-Arm, every-Arm}
use Rattle.koika_syntax.specs.declared.tree.Block.{Block, Block-F, map-Block}
use Rattle.koika_syntax.specs.declared.tree.FieldValue.{FieldValue, FieldValue-F, map-FieldValue, every-FieldValue}
use Rattle.koika_syntax.specs.declared.tree.Operand.{Operand, Operand-F, map-Operand, every-Operand}
use Rattle.koika_syntax.specs.declared.tree.Constant.{Constant, Constant-F, map-Constant}
use Rattle.koika_syntax.specs.declared.tree.ConstantField.{ConstantField, every-ConstantField}
use Rattle.koika_syntax.specs.declared.tree.Constant.TheOpen as constant
use Rattle.koika_syntax.specs.declared.tree.Expression.TheOpen as expression

-- a value for which a fact holds
abbrev pub Such : {X : Type 0} → (X → Type 0) → Type 0
Such {X} P = (x : X) × P x

-- the facts of the values of a list
pub firsts : {X : Type 0} (P : X → Type 0) (xs : List (Such P)) → AllByRecursion P (map (λ e. e.0) xs)
firsts P [] = tt
firsts P (x ∷ xs) = (x.1, firsts P xs)

-- parts of an expression
module _ (QExpression : Expression → Type 0) (QStatement : Statement → Type 0) (QArm : Arm → Type 0) (QBlock : Block → Type 0) (QFieldValue : FieldValue → Type 0) (QOperand : Operand → Type 0) where
  abbrev pub EachOfExpression : Expression-F Expression Statement Arm Block FieldValue Operand → Type 0
  EachOfExpression (expression.If arms otherwise) = AllByRecursion QArm arms × IfSome otherwise QBlock
  EachOfExpression (expression.Chain first rest) = QExpression first × AllByRecursion QOperand rest
  EachOfExpression (expression.Unary prefixes operand) = QExpression operand
  EachOfExpression (expression.Postfix primary suffixes) = QExpression primary
  EachOfExpression (expression.Literal l) = ⊤
  EachOfExpression (expression.Name n) = ⊤
  EachOfExpression (expression.Call called arguments) = AllByRecursion QExpression arguments
  EachOfExpression (expression.Member of member) = ⊤
  EachOfExpression (expression.Struct of fields close) = AllByRecursion QFieldValue fields
  EachOfExpression (expression.Array place elements) = AllByRecursion QExpression elements
  EachOfExpression (expression.Parentheses place inside) = QExpression inside
  EachOfExpression (expression.Block block) = QBlock block
  EachOfExpression (expression.Read place port register) = ⊤
  EachOfExpression (expression.Write place port register value) = QExpression value
  EachOfExpression (expression.Abort place) = ⊤
  EachOfExpression (expression.Pack place value) = QExpression value
  EachOfExpression (expression.Unpack place to value) = QExpression value
  EachOfExpression (expression.Extend place extension value width) = QExpression value
  EachOfExpression (expression.Compare place comparison left right) = QExpression left × QExpression right
  EachOfExpression (expression.Update place whole part value) = QExpression whole × QExpression value

  abbrev pub EachOfStatement : Statement-F Expression Statement Arm Block FieldValue Operand → Type 0
  EachOfStatement (expression.Let n value) = QExpression value
  EachOfStatement (expression.Do value) = QExpression value

  abbrev pub EachOfArm : Arm-F Expression Statement Arm Block FieldValue Operand → Type 0
  EachOfArm arm = QExpression arm.condition × QBlock arm.body

  abbrev pub EachOfBlock : Block-F Expression Statement Arm Block FieldValue Operand → Type 0
  EachOfBlock block = AllByRecursion QStatement block.statements × IfSome block.value QExpression

  abbrev pub EachOfFieldValue : FieldValue-F Expression Statement Arm Block FieldValue Operand → Type 0
  EachOfFieldValue field = QExpression field.value

  abbrev pub EachOfOperand : Operand-F Expression Statement Arm Block FieldValue Operand → Type 0
  EachOfOperand operand = QExpression operand.operand

  pub each_of_expression : (y : Expression-F (Such QExpression) (Such QStatement) (Such QArm) (Such QBlock) (Such QFieldValue) (Such QOperand)) → EachOfExpression (map-Expression (Such QExpression) (Such QStatement) (Such QArm) (Such QBlock) (Such QFieldValue) (Such QOperand) Expression Statement Arm Block FieldValue Operand (λ e. e.0) (λ e. e.0) (λ e. e.0) (λ e. e.0) (λ e. e.0) (λ e. e.0) y)
  each_of_expression (expression.If arms None) = (firsts QArm arms, tt)
  each_of_expression (expression.If arms (Some b)) = (firsts QArm arms, b.1)
  each_of_expression (expression.Chain first rest) = (first.1, firsts QOperand rest)
  each_of_expression (expression.Unary prefixes operand) = operand.1
  each_of_expression (expression.Postfix primary suffixes) = primary.1
  each_of_expression (expression.Literal l) = tt
  each_of_expression (expression.Name n) = tt
  each_of_expression (expression.Call called arguments) = firsts QExpression arguments
  each_of_expression (expression.Member of member) = tt
  each_of_expression (expression.Struct of fields close) = firsts QFieldValue fields
  each_of_expression (expression.Array place elements) = firsts QExpression elements
  each_of_expression (expression.Parentheses place inside) = inside.1
  each_of_expression (expression.Block block) = block.1
  each_of_expression (expression.Read place port register) = tt
  each_of_expression (expression.Write place port register value) = value.1
  each_of_expression (expression.Abort place) = tt
  each_of_expression (expression.Pack place value) = value.1
  each_of_expression (expression.Unpack place to value) = value.1
  each_of_expression (expression.Extend place extension value width) = value.1
  each_of_expression (expression.Compare place comparison left right) = (left.1, right.1)
  each_of_expression (expression.Update place whole part value) = (whole.1, value.1)

  pub each_of_statement : (y : Statement-F (Such QExpression) (Such QStatement) (Such QArm) (Such QBlock) (Such QFieldValue) (Such QOperand)) → EachOfStatement (map-Statement (Such QExpression) (Such QStatement) (Such QArm) (Such QBlock) (Such QFieldValue) (Such QOperand) Expression Statement Arm Block FieldValue Operand (λ e. e.0) (λ e. e.0) (λ e. e.0) (λ e. e.0) (λ e. e.0) (λ e. e.0) y)
  each_of_statement (expression.Let n value) = value.1
  each_of_statement (expression.Do value) = value.1

  pub each_of_arm : (y : Arm-F (Such QExpression) (Such QStatement) (Such QArm) (Such QBlock) (Such QFieldValue) (Such QOperand)) → EachOfArm (map-Arm (Such QExpression) (Such QStatement) (Such QArm) (Such QBlock) (Such QFieldValue) (Such QOperand) Expression Statement Arm Block FieldValue Operand (λ e. e.0) (λ e. e.0) (λ e. e.0) (λ e. e.0) (λ e. e.0) (λ e. e.0) y)
  each_of_arm y = (y.condition.1, y.body.1)

  pub each_of_block : (y : Block-F (Such QExpression) (Such QStatement) (Such QArm) (Such QBlock) (Such QFieldValue) (Such QOperand)) → EachOfBlock (map-Block (Such QExpression) (Such QStatement) (Such QArm) (Such QBlock) (Such QFieldValue) (Such QOperand) Expression Statement Arm Block FieldValue Operand (λ e. e.0) (λ e. e.0) (λ e. e.0) (λ e. e.0) (λ e. e.0) (λ e. e.0) y)
  each_of_block y = of_parts y.place y.statements y.value
    where
      of_parts : (place : ℕ) (statements : List (Such QStatement)) (value : Option (Such QExpression)) → EachOfBlock (map-Block (Such QExpression) (Such QStatement) (Such QArm) (Such QBlock) (Such QFieldValue) (Such QOperand) Expression Statement Arm Block FieldValue Operand (λ e. e.0) (λ e. e.0) (λ e. e.0) (λ e. e.0) (λ e. e.0) (λ e. e.0) (record { place = place; statements = statements; value = value }))
      of_parts place statements None = (firsts QStatement statements, tt)
      of_parts place statements (Some b) = (firsts QStatement statements, b.1)

  pub each_of_field_value : (y : FieldValue-F (Such QExpression) (Such QStatement) (Such QArm) (Such QBlock) (Such QFieldValue) (Such QOperand)) → EachOfFieldValue (map-FieldValue (Such QExpression) (Such QStatement) (Such QArm) (Such QBlock) (Such QFieldValue) (Such QOperand) Expression Statement Arm Block FieldValue Operand (λ e. e.0) (λ e. e.0) (λ e. e.0) (λ e. e.0) (λ e. e.0) (λ e. e.0) y)
  each_of_field_value y = y.value.1

  pub each_of_operand : (y : Operand-F (Such QExpression) (Such QStatement) (Such QArm) (Such QBlock) (Such QFieldValue) (Such QOperand)) → EachOfOperand (map-Operand (Such QExpression) (Such QStatement) (Such QArm) (Such QBlock) (Such QFieldValue) (Such QOperand) Expression Statement Arm Block FieldValue Operand (λ e. e.0) (λ e. e.0) (λ e. e.0) (λ e. e.0) (λ e. e.0) (λ e. e.0) y)
  each_of_operand y = y.operand.1

-- parts of a constant
module _ (QConstant : Constant → Type 0) (QConstantField : ConstantField → Type 0) where
  abbrev pub EachOfConstant : Constant-F Constant ConstantField → Type 0
  EachOfConstant (constant.Literal l) = ⊤
  EachOfConstant (constant.Member of member) = ⊤
  EachOfConstant (constant.Struct of fields close) = AllByRecursion QConstantField fields
  EachOfConstant (constant.Array place elements) = AllByRecursion QConstant elements

  pub each_of_constant : (y : Constant-F (Such QConstant) (Such QConstantField)) → EachOfConstant (map-Constant (Such QConstant) (Such QConstantField) Constant ConstantField (λ e. e.0) (λ e. e.0) y)
  each_of_constant (constant.Literal l) = tt
  each_of_constant (constant.Member of member) = tt
  each_of_constant (constant.Struct of fields close) = firsts QConstantField fields
  each_of_constant (constant.Array place elements) = firsts QConstant elements

-- parts of the grammar
abbrev pub IsStatement : Statement → Type 0
IsStatement = every-Statement IsExpressionLayer IsStatementLayer IsArmLayer IsBlockLayer IsFieldValueLayer IsOperandLayer

abbrev pub IsArm : Arm → Type 0
IsArm = every-Arm IsExpressionLayer IsStatementLayer IsArmLayer IsBlockLayer IsFieldValueLayer IsOperandLayer

abbrev pub IsFieldValue : FieldValue → Type 0
IsFieldValue = every-FieldValue IsExpressionLayer IsStatementLayer IsArmLayer IsBlockLayer IsFieldValueLayer IsOperandLayer

abbrev pub IsOperand : Operand → Type 0
IsOperand = every-Operand IsExpressionLayer IsStatementLayer IsArmLayer IsBlockLayer IsFieldValueLayer IsOperandLayer

abbrev pub IsConstantField : ConstantField → Type 0
IsConstantField = every-ConstantField IsConstantLayer IsConstantFieldLayer
