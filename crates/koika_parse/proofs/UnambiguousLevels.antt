-- One level of a tree of the grammar: its leaves, and the tree with other places, by those of its parts.
use Rattle.std.proofs.Common.{ℕ, List, [], ◌∷◌, map, ap, refl, sym, subst, ◌∙◌}
use Rattle.std.specs.List.{AllByRecursion}
use Rattle.koika_syntax.specs.Tree.{Leaf}
use Rattle.koika_syntax.specs.declared.tree.Arm.{Arm, Arm-F, map-Arm, fold-Arm, fold_out-Arm}
use Rattle.koika_syntax.specs.declared.tree.Block.{Block, Block-F, map-Block, fold_out-Block}
use Rattle.koika_syntax.specs.declared.tree.Choice.{Choice, Choice-F, map-Choice, fold-Choice, fold_out-Choice}
use Rattle.koika_syntax.specs.declared.tree.Constant.{Constant, Constant-F, map-Constant, fold_out-Constant}
use Rattle.koika_syntax.specs.declared.tree.ConstantField.{ConstantField, ConstantField-F, map-ConstantField, fold-ConstantField, fold_out-ConstantField}
use Rattle.koika_syntax.specs.declared.tree.Expression.{Expression, Expression-F, map-Expression, fold-Expression, fold_out-Expression}
use Rattle.koika_syntax.specs.declared.tree.FieldValue.{FieldValue, FieldValue-F, map-FieldValue, fold-FieldValue, fold_out-FieldValue}
use Rattle.koika_syntax.specs.declared.tree.Operand.{Operand, Operand-F, map-Operand, fold-Operand, fold_out-Operand}
use Rattle.koika_syntax.specs.declared.tree.Scheduler.{Scheduler, Scheduler-F, map-Scheduler, fold_out-Scheduler}
use Rattle.koika_syntax.specs.declared.tree.Statement.{Statement, Statement-F, map-Statement, fold-Statement, fold_out-Statement}
use Rattle.koika_syntax.specs.declared.tree.TypeExpression.{TypeExpression, TypeExpression-F, map-TypeExpression, fold_out-TypeExpression}
use Rattle.koika_parse.specs.Places.{type_moved, constant_moved, constant_field_moved, expression_moved, statement_moved, arm_moved, block_moved, field_value_moved, operand_moved}
use Rattle.koika_parse.specs.Places.{choice_moved, scheduler_moved}
use Rattle.koika_parse.specs.Places.{moved_type, moved_constant, moved_block, moved_scheduler}
use Rattle.koika_parse.proofs.Layers.{Such, Kind, Grown, ByLayer, Six, MapSix, Closed, of_layers}
use Rattle.koika_parse.proofs.Layers.{type_kind, constant_kind, constant_field_kind, expression_kind, statement_kind, arm_kind, block_kind, field_value_kind, operand_kind}
use Rattle.koika_parse.proofs.Layers.{choice_kind, scheduler_kind}

pub firsts : {X : Type 0} (P : X → Type 0) (xs : List (Such P)) → AllByRecursion P (map (λ e. e.0) xs)
firsts P [] = tt
firsts P (x ∷ xs) = (x.1, firsts P xs)

-- what holds of each layer of the grammar, its leaves and what it becomes holds of each tree of the grammar
abbrev pub Each : (k : Kind) → (k.Layer → List Leaf) → (k.Layer → k.Tree) → (k.Layer → List Leaf → k.Tree → Type 0) → Type 0
Each k layer becomes P = (y : k.Open) → k.IsLayer (k.closed y) → P (k.closed y) (layer (k.closed y)) (becomes (k.closed y))

pub by_layers : (k : Kind) → Grown k → {leaves : k.Tree → List Leaf} {layer : k.Layer → List Leaf} {moved : k.Tree → k.Tree} {becomes : k.Layer → k.Tree} →
    ByLayer k leaves layer → ByLayer k moved becomes → (P : k.Layer → List Leaf → k.Tree → Type 0) → Each k layer becomes P → (t : k.Tree) → k.Is t → P (k.out t) (leaves t) (moved t)
by_layers k grown {leaves} {layer} {moved} {becomes} leaves_by moved_by P each t is =
    subst (λ l. P (k.out t) l (moved t)) (sym (leaves_by t (k.out t) refl))
    (subst (λ m. P (k.out t) (layer (k.out t)) m) (sym (moved_by t (k.out t) refl)) (of_layers k grown (λ d. P d (layer d) (becomes d)) each t is))

module _ (at : ℕ → ℕ) where
  -- the parts of constants, of expressions and of schedulers
  unfoldable pub moved_constant_field : ConstantField → ConstantField
  moved_constant_field = fold-ConstantField Constant ConstantField (constant_moved at) (constant_field_moved at)

  unfoldable pub moved_expression : Expression → Expression
  moved_expression = fold-Expression Expression Statement Arm Block FieldValue Operand (expression_moved at) (statement_moved at) (arm_moved at) (block_moved at) (field_value_moved at)
      (operand_moved at)

  unfoldable pub moved_statement : Statement → Statement
  moved_statement = fold-Statement Expression Statement Arm Block FieldValue Operand (expression_moved at) (statement_moved at) (arm_moved at) (block_moved at) (field_value_moved at)
      (operand_moved at)

  unfoldable pub moved_arm : Arm → Arm
  moved_arm = fold-Arm Expression Statement Arm Block FieldValue Operand (expression_moved at) (statement_moved at) (arm_moved at) (block_moved at) (field_value_moved at) (operand_moved at)

  unfoldable pub moved_field_value : FieldValue → FieldValue
  moved_field_value = fold-FieldValue Expression Statement Arm Block FieldValue Operand (expression_moved at) (statement_moved at) (arm_moved at) (block_moved at)
      (field_value_moved at) (operand_moved at)

  unfoldable pub moved_operand : Operand → Operand
  moved_operand = fold-Operand Expression Statement Arm Block FieldValue Operand (expression_moved at) (statement_moved at) (arm_moved at) (block_moved at) (field_value_moved at)
      (operand_moved at)

  unfoldable pub moved_choice : Choice → Choice
  moved_choice = fold-Choice Choice Scheduler (choice_moved at) (scheduler_moved at)

  -- what the layers become, and so their trees
  abbrev pub type_becomes : TypeExpression-F TypeExpression → TypeExpression
  type_becomes d = type_moved at (map-TypeExpression TypeExpression TypeExpression (moved_type at) d)

  pub type_moved_by : ByLayer type_kind (moved_type at) type_becomes
  unfolding moved_type
  type_moved_by t d e = fold_out-TypeExpression TypeExpression (type_moved at) t ∙ ap type_becomes e

  abbrev pub constant_becomes : Constant-F Constant ConstantField → Constant
  constant_becomes d = constant_moved at (map-Constant Constant ConstantField Constant ConstantField (moved_constant at) moved_constant_field d)

  pub constant_moved_by : ByLayer constant_kind (moved_constant at) constant_becomes
  unfolding moved_constant moved_constant_field
  constant_moved_by t d e = fold_out-Constant Constant ConstantField (constant_moved at) (constant_field_moved at) t ∙ ap constant_becomes e

  abbrev pub constant_field_becomes : ConstantField-F Constant ConstantField → ConstantField
  constant_field_becomes d = constant_field_moved at (map-ConstantField Constant ConstantField Constant ConstantField (moved_constant at) moved_constant_field d)

  pub constant_field_moved_by : ByLayer constant_field_kind moved_constant_field constant_field_becomes
  unfolding moved_constant moved_constant_field
  constant_field_moved_by t d e = fold_out-ConstantField Constant ConstantField (constant_moved at) (constant_field_moved at) t ∙ ap constant_field_becomes e

  abbrev pub moved_in : (F : Six) → MapSix F → Closed F → Closed F
  moved_in F map d = map Expression Statement Arm Block FieldValue Operand Expression Statement Arm Block FieldValue Operand moved_expression moved_statement moved_arm
      (moved_block at) moved_field_value moved_operand d

  abbrev pub expression_becomes : Closed Expression-F → Expression
  expression_becomes d = expression_moved at (moved_in Expression-F map-Expression d)

  pub expression_moved_by : ByLayer expression_kind moved_expression expression_becomes
  unfolding moved_expression moved_statement moved_arm moved_block moved_field_value moved_operand
  expression_moved_by t d e =
      fold_out-Expression Expression Statement Arm Block FieldValue Operand (expression_moved at) (statement_moved at) (arm_moved at) (block_moved at) (field_value_moved at)
      (operand_moved at) t ∙ ap expression_becomes e

  abbrev pub statement_becomes : Closed Statement-F → Statement
  statement_becomes d = statement_moved at (moved_in Statement-F map-Statement d)

  pub statement_moved_by : ByLayer statement_kind moved_statement statement_becomes
  unfolding moved_expression moved_statement moved_arm moved_block moved_field_value moved_operand
  statement_moved_by t d e =
      fold_out-Statement Expression Statement Arm Block FieldValue Operand (expression_moved at) (statement_moved at) (arm_moved at) (block_moved at) (field_value_moved at)
      (operand_moved at) t ∙ ap statement_becomes e

  abbrev pub arm_becomes : Closed Arm-F → Arm
  arm_becomes d = arm_moved at (moved_in Arm-F map-Arm d)

  pub arm_moved_by : ByLayer arm_kind moved_arm arm_becomes
  unfolding moved_expression moved_statement moved_arm moved_block moved_field_value moved_operand
  arm_moved_by t d e =
      fold_out-Arm Expression Statement Arm Block FieldValue Operand (expression_moved at) (statement_moved at) (arm_moved at) (block_moved at) (field_value_moved at)
      (operand_moved at) t ∙ ap arm_becomes e

  abbrev pub block_becomes : Closed Block-F → Block
  block_becomes d = block_moved at (moved_in Block-F map-Block d)

  pub block_moved_by : ByLayer block_kind (moved_block at) block_becomes
  unfolding moved_expression moved_statement moved_arm moved_block moved_field_value moved_operand
  block_moved_by t d e =
      fold_out-Block Expression Statement Arm Block FieldValue Operand (expression_moved at) (statement_moved at) (arm_moved at) (block_moved at) (field_value_moved at)
      (operand_moved at) t ∙ ap block_becomes e

  abbrev pub field_value_becomes : Closed FieldValue-F → FieldValue
  field_value_becomes d = field_value_moved at (moved_in FieldValue-F map-FieldValue d)

  pub field_value_moved_by : ByLayer field_value_kind moved_field_value field_value_becomes
  unfolding moved_expression moved_statement moved_arm moved_block moved_field_value moved_operand
  field_value_moved_by t d e =
      fold_out-FieldValue Expression Statement Arm Block FieldValue Operand (expression_moved at) (statement_moved at) (arm_moved at) (block_moved at) (field_value_moved at)
      (operand_moved at) t ∙ ap field_value_becomes e

  abbrev pub operand_becomes : Closed Operand-F → Operand
  operand_becomes d = operand_moved at (moved_in Operand-F map-Operand d)

  pub operand_moved_by : ByLayer operand_kind moved_operand operand_becomes
  unfolding moved_expression moved_statement moved_arm moved_block moved_field_value moved_operand
  operand_moved_by t d e =
      fold_out-Operand Expression Statement Arm Block FieldValue Operand (expression_moved at) (statement_moved at) (arm_moved at) (block_moved at) (field_value_moved at)
      (operand_moved at) t ∙ ap operand_becomes e

  abbrev pub choice_becomes : Choice-F Choice Scheduler → Choice
  choice_becomes d = choice_moved at (map-Choice Choice Scheduler Choice Scheduler moved_choice (moved_scheduler at) d)

  pub choice_moved_by : ByLayer choice_kind moved_choice choice_becomes
  unfolding moved_choice moved_scheduler
  choice_moved_by t d e = fold_out-Choice Choice Scheduler (choice_moved at) (scheduler_moved at) t ∙ ap choice_becomes e

  abbrev pub scheduler_becomes : Scheduler-F Choice Scheduler → Scheduler
  scheduler_becomes d = scheduler_moved at (map-Scheduler Choice Scheduler Choice Scheduler moved_choice (moved_scheduler at) d)

  pub scheduler_moved_by : ByLayer scheduler_kind (moved_scheduler at) scheduler_becomes
  unfolding moved_choice moved_scheduler
  scheduler_moved_by t d e = fold_out-Scheduler Choice Scheduler (choice_moved at) (scheduler_moved at) t ∙ ap scheduler_becomes e
