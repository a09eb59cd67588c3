-- The layers of trees: what is of the grammar, and its leaves, by the layer of a tree and the trees in it.
use Rattle.std.proofs.Common.{◌≡◌, List, refl, sym, ap, ◌∙◌, subst}
use Rattle.koika_syntax.specs.Tree.{Leaf}
use Rattle.koika_syntax.specs.Grammar.{IsConstant, IsBlock, IsScheduler, constant_leaves, block_leaves, scheduler_leaves}
use Rattle.koika_syntax.specs.Grammar.{IsConstantLayer, IsConstantFieldLayer, constant_step, constant_field_step}
use Rattle.koika_syntax.specs.Grammar.{IsExpressionLayer, IsStatementLayer, IsArmLayer, IsBlockLayer, IsFieldValueLayer, IsOperandLayer}
use Rattle.koika_syntax.specs.Grammar.{expression_step, statement_step, arm_step, block_step, field_value_step, operand_step}
use Rattle.koika_syntax.specs.Grammar.{IsChoiceLayer, IsSchedulerLayer, choice_step, scheduler_step}
use Rattle.koika_syntax.specs.Grammar.{IsType, IsTypeLayer, type_leaves, type_step}
use Rattle.koika_syntax.specs.inner.Grammar.{IsExpression, constant_field_leaves, choice_leaves}
use Rattle.koika_syntax.specs.inner.Grammar.{expression_leaves, statement_leaves, arm_leaves, field_value_leaves, operand_leaves}
use Rattle.koika_syntax.specs.declared.tree.Constant.{Constant, Constant-F, map-Constant, out-Constant, roll-Constant}
use Rattle.koika_syntax.specs.declared.tree.Constant.{every_held-Constant, every_here-Constant, every_made-Constant}
use Rattle.koika_syntax.specs.declared.tree.Constant.{fold_out-Constant}
use Rattle.koika_syntax.specs.declared.tree.ConstantField.{ConstantField, ConstantField-F, map-ConstantField}
use Rattle.koika_syntax.specs.declared.tree.ConstantField.{out-ConstantField, roll-ConstantField}
use Rattle.koika_syntax.specs.declared.tree.ConstantField.{every_held-ConstantField, every_here-ConstantField}
use Rattle.koika_syntax.specs.declared.tree.ConstantField.{every_made-ConstantField, fold_out-ConstantField}
use Rattle.koika_syntax.specs.declared.tree.Expression.{Expression, Expression-F, map-Expression, out-Expression}
use Rattle.koika_syntax.specs.declared.tree.Expression.{roll-Expression, every_held-Expression, every_here-Expression}
use Rattle.koika_syntax.specs.declared.tree.Expression.{every_made-Expression, fold_out-Expression}
use Rattle.koika_syntax.specs.declared.tree.Statement.{Statement, Statement-F, map-Statement, out-Statement}
use Rattle.koika_syntax.specs.declared.tree.Statement.{roll-Statement, every_held-Statement, every_here-Statement}
use Rattle.koika_syntax.specs.declared.tree.Statement.{every_made-Statement, fold_out-Statement}
use Rattle.koika_syntax.specs.declared.tree.Arm.{Arm, Arm-F, map-Arm, out-Arm, roll-Arm, every_held-Arm, every_here-Arm, every_made-Arm, fold_out-Arm}
use Rattle.koika_syntax.specs.declared.tree.Block.{Block, Block-F, map-Block, out-Block, roll-Block, every_held-Block, every_here-Block, every_made-Block, fold_out-Block}
use Rattle.koika_syntax.specs.declared.tree.FieldValue.{FieldValue, FieldValue-F, map-FieldValue, out-FieldValue}
use Rattle.koika_syntax.specs.declared.tree.FieldValue.{roll-FieldValue, every_held-FieldValue, every_here-FieldValue}
use Rattle.koika_syntax.specs.declared.tree.FieldValue.{every_made-FieldValue, fold_out-FieldValue}
use Rattle.koika_syntax.specs.declared.tree.Operand.{Operand, Operand-F, map-Operand, out-Operand, roll-Operand, every_held-Operand, every_here-Operand, every_made-Operand, fold_out-Operand}
use Rattle.koika_syntax.specs.declared.tree.Choice.{Choice, Choice-F, map-Choice, out-Choice, roll-Choice, every_held-Choice, every_here-Choice, every_made-Choice, fold_out-Choice}
use Rattle.koika_syntax.specs.declared.tree.Scheduler.{Scheduler, Scheduler-F, map-Scheduler, out-Scheduler}
use Rattle.koika_syntax.specs.declared.tree.Scheduler.{roll-Scheduler, every_held-Scheduler, every_here-Scheduler}
use Rattle.koika_syntax.specs.declared.tree.Scheduler.{every_made-Scheduler, fold_out-Scheduler}
use Rattle.koika_syntax.specs.declared.tree.TypeExpression.{TypeExpression, TypeExpression-F, map-TypeExpression}
use Rattle.koika_syntax.specs.declared.tree.TypeExpression.{out-TypeExpression, roll-TypeExpression}
use Rattle.koika_syntax.specs.declared.tree.TypeExpression.{every_held-TypeExpression, every_here-TypeExpression}
use Rattle.koika_syntax.specs.declared.tree.TypeExpression.{every_made-TypeExpression, fold_out-TypeExpression}
use Rattle.koika_parse.specs.inner.Parts.{IsConstantField, IsStatement, IsArm, IsFieldValue, IsOperand, IsChoice}

-- what has a property
abbrev pub Such : {X : Type 0} → (X → Type 0) → Type 0
Such {X} P = (x : X) × P x

-- a kind of trees: its layers, which hold trees, the same with trees of the grammar, and what is of the grammar
pub record Kind : Type 1 where
  pub Tree : Type 0
  pub Layer : Type 0
  pub Open : Type 0
  pub out : Tree → Layer
  pub roll : Layer → Tree
  pub closed : Open → Layer
  pub Is : Tree → Type 0
  pub IsLayer : Layer → Type 0

-- a tree is of the grammar where its layer is and the trees in the layer are
pub record Grown (k : Kind) : Type 0 where
  pub held : (t : k.Tree) → k.Is t → (y : k.Open) × (k.closed y ≡ k.out t)
  pub here : (t : k.Tree) → k.Is t → k.IsLayer (k.out t)
  pub made : (d : k.Layer) (y : k.Open) → k.closed y ≡ d → k.IsLayer d → k.Is (k.roll d)

-- what is made of a tree is what is made of its layer
abbrev pub ByLayer : {X : Type 0} (k : Kind) → (k.Tree → X) → (k.Layer → X) → Type 0
ByLayer k of layer = (t : k.Tree) (d : k.Layer) → k.out t ≡ d → of t ≡ layer d

abbrev Leaves : Type 0
Leaves = List Leaf

-- a property of the layers of trees of the grammar, and of their leaves
pub of_layers : (k : Kind) → Grown k → (Claim : k.Layer → Type 0) → ((y : k.Open) → k.IsLayer (k.closed y) → Claim (k.closed y)) →
    (t : k.Tree) → k.Is t → Claim (k.out t)
of_layers k grown Claim each t is =
    let held = grown.held t is in
    subst Claim held.1 (each held.0 (subst k.IsLayer (sym held.1) (grown.here t is)))

pub of_leaves :
    (k : Kind) → Grown k → {leaves : k.Tree → Leaves} {layer : k.Layer → Leaves} → ByLayer k leaves layer →
    (W : Leaves → Type 0) → ((y : k.Open) → k.IsLayer (k.closed y) → W (layer (k.closed y))) → (t : k.Tree) → k.Is t → W (leaves t)
of_leaves k grown {leaves} {layer} by W each t is =
    subst W (sym (by t (k.out t) refl)) (of_layers k grown (λ d. W (layer d)) each t is)

-- a type
abbrev pub type_kind : Kind
type_kind = record {
  Tree = TypeExpression;
  Layer = TypeExpression-F TypeExpression;
  Open = TypeExpression-F (Such IsType);
  out = out-TypeExpression;
  roll = roll-TypeExpression;
  closed = map-TypeExpression (Such IsType) TypeExpression (λ e. e.0);
  Is = IsType;
  IsLayer = IsTypeLayer;
}

pub type_grown : Grown type_kind
unfolding IsType
type_grown = record {
  held = every_held-TypeExpression IsTypeLayer;
  here = every_here-TypeExpression IsTypeLayer;
  made = every_made-TypeExpression IsTypeLayer;
}

abbrev pub type_layer : TypeExpression-F TypeExpression → Leaves
type_layer d = type_step (map-TypeExpression TypeExpression Leaves type_leaves d)

pub type_leaves_by : ByLayer type_kind type_leaves type_layer
unfolding type_leaves
type_leaves_by t d e = fold_out-TypeExpression Leaves type_step t ∙ ap type_layer e

-- a constant
abbrev pub constant_kind : Kind
constant_kind = record {
  Tree = Constant;
  Layer = Constant-F Constant ConstantField;
  Open = Constant-F (Such IsConstant) (Such IsConstantField);
  out = out-Constant;
  roll = roll-Constant;
  closed = map-Constant (Such IsConstant) (Such IsConstantField) Constant ConstantField (λ e. e.0) (λ e. e.0);
  Is = IsConstant;
  IsLayer = IsConstantLayer;
}

pub constant_grown : Grown constant_kind
unfolding IsConstant IsConstantField
constant_grown = record {
  held = every_held-Constant IsConstantLayer IsConstantFieldLayer;
  here = every_here-Constant IsConstantLayer IsConstantFieldLayer;
  made = every_made-Constant IsConstantLayer IsConstantFieldLayer;
}

abbrev pub constant_layer : Constant-F Constant ConstantField → Leaves
constant_layer d = constant_step (map-Constant Constant ConstantField Leaves Leaves constant_leaves constant_field_leaves d)

pub constant_leaves_by : ByLayer constant_kind constant_leaves constant_layer
unfolding constant_leaves constant_field_leaves
constant_leaves_by t d e = fold_out-Constant Leaves Leaves constant_step constant_field_step t ∙ ap constant_layer e

-- a constant of a field
abbrev pub constant_field_kind : Kind
constant_field_kind = record {
  Tree = ConstantField;
  Layer = ConstantField-F Constant ConstantField;
  Open = ConstantField-F (Such IsConstant) (Such IsConstantField);
  out = out-ConstantField;
  roll = roll-ConstantField;
  closed = map-ConstantField (Such IsConstant) (Such IsConstantField) Constant ConstantField (λ e. e.0) (λ e. e.0);
  Is = IsConstantField;
  IsLayer = IsConstantFieldLayer;
}

pub constant_field_grown : Grown constant_field_kind
unfolding IsConstant IsConstantField
constant_field_grown = record {
  held = every_held-ConstantField IsConstantLayer IsConstantFieldLayer;
  here = every_here-ConstantField IsConstantLayer IsConstantFieldLayer;
  made = every_made-ConstantField IsConstantLayer IsConstantFieldLayer;
}

abbrev pub constant_field_layer : ConstantField-F Constant ConstantField → Leaves
constant_field_layer d = constant_field_step (map-ConstantField Constant ConstantField Leaves Leaves constant_leaves constant_field_leaves d)

pub constant_field_leaves_by : ByLayer constant_field_kind constant_field_leaves constant_field_layer
unfolding constant_leaves constant_field_leaves
constant_field_leaves_by t d e = fold_out-ConstantField Leaves Leaves constant_step constant_field_step t ∙ ap constant_field_layer e

-- layers with the six kinds of trees that an expression is made of, and what maps them
abbrev pub Six : Type 1
Six = (expression statement arm block field_value operand : Type 0) → Type 0

abbrev pub MapSix : Six → Type 1
MapSix F = (E S A B V O E' S' A' B' V' O' : Type 0) →
    (E → E') → (S → S') → (A → A') → (B → B') → (V → V') → (O → O') → F E S A B V O → F E' S' A' B' V' O'

abbrev pub Closed : Six → Type 0
Closed F = F Expression Statement Arm Block FieldValue Operand

abbrev pub Open : Six → Type 0
Open F = F (Such IsExpression) (Such IsStatement) (Such IsArm) (Such IsBlock) (Such IsFieldValue) (Such IsOperand)

abbrev pub closed : (F : Six) → MapSix F → Open F → Closed F
closed F map y =
    map (Such IsExpression) (Such IsStatement) (Such IsArm) (Such IsBlock) (Such IsFieldValue) (Such IsOperand)
    Expression Statement Arm Block FieldValue Operand
    (λ e. e.0) (λ e. e.0) (λ e. e.0) (λ e. e.0) (λ e. e.0) (λ e. e.0) y

-- the leaves of the trees in a layer
abbrev pub leaves_in : (F : Six) → MapSix F → Closed F → F Leaves Leaves Leaves Leaves Leaves Leaves
leaves_in F map d =
    map Expression Statement Arm Block FieldValue Operand Leaves Leaves Leaves Leaves Leaves Leaves
    expression_leaves statement_leaves arm_leaves block_leaves field_value_leaves operand_leaves d

abbrev pub kind_of : (F : Six) → MapSix F → (T : Type 0) → (T → Closed F) → (Closed F → T) → (T → Type 0) → (Closed F → Type 0) → Kind
kind_of F map T out roll Is IsLayer = record {
  Tree = T;
  Layer = Closed F;
  Open = Open F;
  out = out;
  roll = roll;
  closed = closed F map;
  Is = Is;
  IsLayer = IsLayer;
}

-- an expression
abbrev pub expression_kind : Kind
expression_kind = kind_of Expression-F map-Expression Expression out-Expression roll-Expression IsExpression IsExpressionLayer

pub expression_grown : Grown expression_kind
unfolding IsExpression IsStatement IsArm IsBlock IsFieldValue IsOperand
expression_grown = record {
  held = every_held-Expression IsExpressionLayer IsStatementLayer IsArmLayer IsBlockLayer IsFieldValueLayer IsOperandLayer;
  here = every_here-Expression IsExpressionLayer IsStatementLayer IsArmLayer IsBlockLayer IsFieldValueLayer IsOperandLayer;
  made = every_made-Expression IsExpressionLayer IsStatementLayer IsArmLayer IsBlockLayer IsFieldValueLayer IsOperandLayer;
}

abbrev pub expression_layer : Closed Expression-F → Leaves
expression_layer d = expression_step (leaves_in Expression-F map-Expression d)

pub expression_leaves_by : ByLayer expression_kind expression_leaves expression_layer
unfolding expression_leaves statement_leaves arm_leaves block_leaves field_value_leaves operand_leaves
expression_leaves_by t d e =
    fold_out-Expression Leaves Leaves Leaves Leaves Leaves Leaves
    expression_step statement_step arm_step block_step field_value_step operand_step t ∙ ap expression_layer e

-- a statement
abbrev pub statement_kind : Kind
statement_kind = kind_of Statement-F map-Statement Statement out-Statement roll-Statement IsStatement IsStatementLayer

pub statement_grown : Grown statement_kind
unfolding IsExpression IsStatement IsArm IsBlock IsFieldValue IsOperand
statement_grown = record {
  held = every_held-Statement IsExpressionLayer IsStatementLayer IsArmLayer IsBlockLayer IsFieldValueLayer IsOperandLayer;
  here = every_here-Statement IsExpressionLayer IsStatementLayer IsArmLayer IsBlockLayer IsFieldValueLayer IsOperandLayer;
  made = every_made-Statement IsExpressionLayer IsStatementLayer IsArmLayer IsBlockLayer IsFieldValueLayer IsOperandLayer;
}

abbrev pub statement_layer : Closed Statement-F → Leaves
statement_layer d = statement_step (leaves_in Statement-F map-Statement d)

pub statement_leaves_by : ByLayer statement_kind statement_leaves statement_layer
unfolding expression_leaves statement_leaves arm_leaves block_leaves field_value_leaves operand_leaves
statement_leaves_by t d e =
    fold_out-Statement Leaves Leaves Leaves Leaves Leaves Leaves
    expression_step statement_step arm_step block_step field_value_step operand_step t ∙ ap statement_layer e

-- an arm
abbrev pub arm_kind : Kind
arm_kind = kind_of Arm-F map-Arm Arm out-Arm roll-Arm IsArm IsArmLayer

pub arm_grown : Grown arm_kind
unfolding IsExpression IsStatement IsArm IsBlock IsFieldValue IsOperand
arm_grown = record {
  held = every_held-Arm IsExpressionLayer IsStatementLayer IsArmLayer IsBlockLayer IsFieldValueLayer IsOperandLayer;
  here = every_here-Arm IsExpressionLayer IsStatementLayer IsArmLayer IsBlockLayer IsFieldValueLayer IsOperandLayer;
  made = every_made-Arm IsExpressionLayer IsStatementLayer IsArmLayer IsBlockLayer IsFieldValueLayer IsOperandLayer;
}

abbrev pub arm_layer : Closed Arm-F → Leaves
arm_layer d = arm_step (leaves_in Arm-F map-Arm d)

pub arm_leaves_by : ByLayer arm_kind arm_leaves arm_layer
unfolding expression_leaves statement_leaves arm_leaves block_leaves field_value_leaves operand_leaves
arm_leaves_by t d e =
    fold_out-Arm Leaves Leaves Leaves Leaves Leaves Leaves
    expression_step statement_step arm_step block_step field_value_step operand_step t ∙ ap arm_layer e

-- a block
abbrev pub block_kind : Kind
block_kind = kind_of Block-F map-Block Block out-Block roll-Block IsBlock IsBlockLayer

pub block_grown : Grown block_kind
unfolding IsExpression IsStatement IsArm IsBlock IsFieldValue IsOperand
block_grown = record {
  held = every_held-Block IsExpressionLayer IsStatementLayer IsArmLayer IsBlockLayer IsFieldValueLayer IsOperandLayer;
  here = every_here-Block IsExpressionLayer IsStatementLayer IsArmLayer IsBlockLayer IsFieldValueLayer IsOperandLayer;
  made = every_made-Block IsExpressionLayer IsStatementLayer IsArmLayer IsBlockLayer IsFieldValueLayer IsOperandLayer;
}

abbrev pub block_layer : Closed Block-F → Leaves
block_layer d = block_step (leaves_in Block-F map-Block d)

pub block_leaves_by : ByLayer block_kind block_leaves block_layer
unfolding expression_leaves statement_leaves arm_leaves block_leaves field_value_leaves operand_leaves
block_leaves_by t d e =
    fold_out-Block Leaves Leaves Leaves Leaves Leaves Leaves
    expression_step statement_step arm_step block_step field_value_step operand_step t ∙ ap block_layer e

-- a field value
abbrev pub field_value_kind : Kind
field_value_kind = kind_of FieldValue-F map-FieldValue FieldValue out-FieldValue roll-FieldValue IsFieldValue IsFieldValueLayer

pub field_value_grown : Grown field_value_kind
unfolding IsExpression IsStatement IsArm IsBlock IsFieldValue IsOperand
field_value_grown = record {
  held = every_held-FieldValue IsExpressionLayer IsStatementLayer IsArmLayer IsBlockLayer IsFieldValueLayer IsOperandLayer;
  here = every_here-FieldValue IsExpressionLayer IsStatementLayer IsArmLayer IsBlockLayer IsFieldValueLayer IsOperandLayer;
  made = every_made-FieldValue IsExpressionLayer IsStatementLayer IsArmLayer IsBlockLayer IsFieldValueLayer IsOperandLayer;
}

abbrev pub field_value_layer : Closed FieldValue-F → Leaves
field_value_layer d = field_value_step (leaves_in FieldValue-F map-FieldValue d)

pub field_value_leaves_by : ByLayer field_value_kind field_value_leaves field_value_layer
unfolding expression_leaves statement_leaves arm_leaves block_leaves field_value_leaves operand_leaves
field_value_leaves_by t d e =
    fold_out-FieldValue Leaves Leaves Leaves Leaves Leaves Leaves
    expression_step statement_step arm_step block_step field_value_step operand_step t ∙ ap field_value_layer e

-- an operand
abbrev pub operand_kind : Kind
operand_kind = kind_of Operand-F map-Operand Operand out-Operand roll-Operand IsOperand IsOperandLayer

pub operand_grown : Grown operand_kind
unfolding IsExpression IsStatement IsArm IsBlock IsFieldValue IsOperand
operand_grown = record {
  held = every_held-Operand IsExpressionLayer IsStatementLayer IsArmLayer IsBlockLayer IsFieldValueLayer IsOperandLayer;
  here = every_here-Operand IsExpressionLayer IsStatementLayer IsArmLayer IsBlockLayer IsFieldValueLayer IsOperandLayer;
  made = every_made-Operand IsExpressionLayer IsStatementLayer IsArmLayer IsBlockLayer IsFieldValueLayer IsOperandLayer;
}

abbrev pub operand_layer : Closed Operand-F → Leaves
operand_layer d = operand_step (leaves_in Operand-F map-Operand d)

pub operand_leaves_by : ByLayer operand_kind operand_leaves operand_layer
unfolding expression_leaves statement_leaves arm_leaves block_leaves field_value_leaves operand_leaves
operand_leaves_by t d e =
    fold_out-Operand Leaves Leaves Leaves Leaves Leaves Leaves
    expression_step statement_step arm_step block_step field_value_step operand_step t ∙ ap operand_layer e

-- a choice
abbrev pub choice_kind : Kind
choice_kind = record {
  Tree = Choice;
  Layer = Choice-F Choice Scheduler;
  Open = Choice-F (Such IsChoice) (Such IsScheduler);
  out = out-Choice;
  roll = roll-Choice;
  closed = map-Choice (Such IsChoice) (Such IsScheduler) Choice Scheduler (λ e. e.0) (λ e. e.0);
  Is = IsChoice;
  IsLayer = IsChoiceLayer;
}

pub choice_grown : Grown choice_kind
unfolding IsChoice IsScheduler
choice_grown = record {
  held = every_held-Choice IsChoiceLayer IsSchedulerLayer;
  here = every_here-Choice IsChoiceLayer IsSchedulerLayer;
  made = every_made-Choice IsChoiceLayer IsSchedulerLayer;
}

abbrev pub choice_layer : Choice-F Choice Scheduler → Leaves
choice_layer d = choice_step (map-Choice Choice Scheduler Leaves Leaves choice_leaves scheduler_leaves d)

pub choice_leaves_by : ByLayer choice_kind choice_leaves choice_layer
unfolding choice_leaves scheduler_leaves
choice_leaves_by t d e = fold_out-Choice Leaves Leaves choice_step scheduler_step t ∙ ap choice_layer e

-- a scheduler
abbrev pub scheduler_kind : Kind
scheduler_kind = record {
  Tree = Scheduler;
  Layer = Scheduler-F Choice Scheduler;
  Open = Scheduler-F (Such IsChoice) (Such IsScheduler);
  out = out-Scheduler;
  roll = roll-Scheduler;
  closed = map-Scheduler (Such IsChoice) (Such IsScheduler) Choice Scheduler (λ e. e.0) (λ e. e.0);
  Is = IsScheduler;
  IsLayer = IsSchedulerLayer;
}

pub scheduler_grown : Grown scheduler_kind
unfolding IsChoice IsScheduler
scheduler_grown = record {
  held = every_held-Scheduler IsChoiceLayer IsSchedulerLayer;
  here = every_here-Scheduler IsChoiceLayer IsSchedulerLayer;
  made = every_made-Scheduler IsChoiceLayer IsSchedulerLayer;
}

abbrev pub scheduler_layer : Scheduler-F Choice Scheduler → Leaves
scheduler_layer d = scheduler_step (map-Scheduler Choice Scheduler Leaves Leaves choice_leaves scheduler_leaves d)

pub scheduler_leaves_by : ByLayer scheduler_kind scheduler_leaves scheduler_layer
unfolding choice_leaves scheduler_leaves
scheduler_leaves_by t d e = fold_out-Scheduler Leaves Leaves choice_step scheduler_step t ∙ ap scheduler_layer e
