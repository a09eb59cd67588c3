-- What an `if`, a block and the parts of expressions come to, by what their own parts come to.
use Rattle.std.proofs.Common.{◌≡◌, ℕ, List, [], ◌∷◌, map, Option, Some, None, ap, refl, sym, ◌∙◌}
use Rattle.std.specs.Option.{option_map}
use Rattle.koika_syntax.specs.declared.tree.Arm.{Arm, out-Arm, fold_out-Arm}
use Rattle.koika_syntax.specs.declared.tree.Block.{Block, out-Block, roll-Block, roll-out-Block, fold-roll-Block}
use Rattle.koika_syntax.specs.declared.tree.Expression.{Expression, fold-roll-Expression}
use Rattle.koika_syntax.specs.declared.tree.Expression.TheOpen as opened
use Rattle.koika_syntax.specs.declared.tree.Expression.TheViews as views
use Rattle.koika_syntax.specs.declared.tree.FieldValue.{FieldValue, out-FieldValue, fold_out-FieldValue}
use Rattle.koika_syntax.specs.declared.tree.Name.{Name}
use Rattle.koika_syntax.specs.declared.tree.Operand.{Operand, out-Operand, fold_out-Operand}
use Rattle.koika_syntax.specs.declared.tree.Statement.{Statement, fold-roll-Statement}
use Rattle.koika_syntax.specs.declared.tree.Statement.TheVariants as statements
use Rattle.koika_check.specs.Constructs.{ArmTyping, Joined, conditional}
use Rattle.koika_check.specs.Expressions.{Armed, Fielded, Joining, ExpressionTyping, BlockSoFar, StatementTyping, arm_step, block_in, block_step, close, expression_step, field_value_step, join_in, operand_step, otherwise_in, run, statement_step}
use Rattle.koika_check.specs.inner.Expressions.{arm_in, expression_in, field_value_in, operand_in, statement_in}
use Rattle.koika_check.specs.Outcomes.{Fails, Gives, CheckResult, ◌>>=◌, in_turn, one_by_one}
use Rattle.koika_check.specs.Scopes.{Scope}
use Rattle.koika_check.specs.inner.TypedParts.{bound_step}
use Rattle.koika_check.specs.declared.typed.BlockStep.TheVariants as step
use Rattle.koika_check.proofs.Turns.{one-map, turn-map}

pub expression-If : (arms : List Arm) (otherwise : Option Block) (s : Scope) →
    expression_in (views.If arms otherwise) s ≡ (in_turn (λ a. arm_in a s) arms >>= λ xs. otherwise_in s (option_map block_in otherwise) >>= conditional xs)
unfolding expression_in statement_in arm_in block_in field_value_in operand_in
expression-If arms None s =
    ap (λ e. expression_in e s) (sym (views.rolls-If arms None)) ∙ ap (λ m. m s) (fold-roll-Expression ExpressionTyping StatementTyping Armed ExpressionTyping Fielded Joining expression_step statement_step arm_step block_step field_value_step operand_step (opened.If arms None))
    ∙ ap (λ (o : CheckResult (List ArmTyping)). o >>= λ xs. otherwise_in s None >>= conditional xs) (turn-map (λ (m : Armed). m s) arm_in arms)
expression-If arms (Some b) s =
    ap (λ e. expression_in e s) (sym (views.rolls-If arms (Some b))) ∙ ap (λ m. m s) (fold-roll-Expression ExpressionTyping StatementTyping Armed ExpressionTyping Fielded Joining expression_step statement_step arm_step block_step field_value_step operand_step (opened.If arms (Some b)))
    ∙ ap (λ (o : CheckResult (List ArmTyping)). o >>= λ xs. otherwise_in s (Some (block_in b)) >>= conditional xs) (turn-map (λ (m : Armed). m s) arm_in arms)

pub statement-Let : (n : Name) (value : Expression) (s : Scope) → statement_in (statements.Let n value) s ≡ (expression_in value s >>= bound_step n s)
unfolding expression_in statement_in arm_in block_in field_value_in operand_in
statement-Let n value s =
    ap (λ t. statement_in t s) (sym (statements.rolls-Let n value)) ∙ ap (λ m. m s) (fold-roll-Statement ExpressionTyping StatementTyping Armed ExpressionTyping Fielded Joining expression_step statement_step arm_step block_step field_value_step operand_step (opened.Let n value))

pub statement-Do : (value : Expression) (s : Scope) → statement_in (statements.Do value) s ≡ (expression_in value s >>= λ inner. Gives (record { step = step.Do inner.typed; behind = s }))
unfolding expression_in statement_in arm_in block_in field_value_in operand_in
statement-Do value s =
    ap (λ t. statement_in t s) (sym (statements.rolls-Do value)) ∙ ap (λ m. m s) (fold-roll-Statement ExpressionTyping StatementTyping Armed ExpressionTyping Fielded Joining expression_step statement_step arm_step block_step field_value_step operand_step (opened.Do value))

pub arm-parts : (a : Arm) (s : Scope) →
    arm_in a s ≡ (expression_in (out-Arm a).condition s >>= λ condition. block_in (out-Arm a).body s >>= λ body. Gives (record { place = (out-Arm a).place; condition = condition; body = body }))
unfolding expression_in statement_in arm_in block_in field_value_in operand_in
arm-parts a s = ap (λ m. m s) (fold_out-Arm ExpressionTyping StatementTyping Armed ExpressionTyping Fielded Joining expression_step statement_step arm_step block_step field_value_step operand_step a)

pub field-parts : (f : FieldValue) (s : Scope) → field_value_in f s ≡ (expression_in (out-FieldValue f).value s >>= λ inner. Gives (record { name = (out-FieldValue f).name; typing = inner }))
unfolding expression_in statement_in arm_in block_in field_value_in operand_in
field-parts f s = ap (λ m. m s) (fold_out-FieldValue ExpressionTyping StatementTyping Armed ExpressionTyping Fielded Joining expression_step statement_step arm_step block_step field_value_step operand_step f)

pub operand-parts : (o : Operand) → operand_in o ≡ record { operator = (out-Operand o).operator; operand = expression_in (out-Operand o).operand }
unfolding expression_in statement_in arm_in block_in field_value_in operand_in
operand-parts o = fold_out-Operand ExpressionTyping StatementTyping Armed ExpressionTyping Fielded Joining expression_step statement_step arm_step block_step field_value_step operand_step o

-- a block's statements, and then its last expression
abbrev block_of : (place : ℕ) → List Statement → Option Expression → ExpressionTyping
block_of place items value s =
    one_by_one (λ t. run (statement_in t)) items (record { steps = []; behind = s }) >>= close place (option_map expression_in value)

block-at : (place : ℕ) (items : List Statement) (value : Option Expression) (s : Scope) →
    block_in (roll-Block (record { place = place; statements = items; value = value })) s ≡ block_of place items value s
unfolding expression_in statement_in arm_in block_in field_value_in operand_in
block-at place items None s =
    ap (λ m. m s) (fold-roll-Block ExpressionTyping StatementTyping Armed ExpressionTyping Fielded Joining expression_step statement_step arm_step block_step field_value_step operand_step (record { place = place; statements = items; value = None }))
    ∙ ap (λ (o : CheckResult BlockSoFar). o >>= close place None) (one-map run statement_in items (record { steps = []; behind = s }))
block-at place items (Some last) s =
    ap (λ m. m s) (fold-roll-Block ExpressionTyping StatementTyping Armed ExpressionTyping Fielded Joining expression_step statement_step arm_step block_step field_value_step operand_step (record { place = place; statements = items; value = Some last }))
    ∙ ap (λ (o : CheckResult BlockSoFar). o >>= close place (Some (expression_in last))) (one-map run statement_in items (record { steps = []; behind = s }))

pub block-parts : (b : Block) (s : Scope) → block_in b s ≡ block_of (out-Block b).place (out-Block b).statements (out-Block b).value s
block-parts b s = ap (λ k. block_in k s) (sym (roll-out-Block b)) ∙ block-at (out-Block b).place (out-Block b).statements (out-Block b).value s

-- a chain's operands, one by one
pub chain-parts : (s : Scope) (rest : List Operand) (start : Joined) →
    one_by_one (join_in s) (map operand_in rest) start ≡ one_by_one (λ o. join_in s (record { operator = (out-Operand o).operator; operand = expression_in (out-Operand o).operand })) rest start
chain-parts s rest start = one-map (join_in s) operand_in rest start ∙ same rest start
  where
    same : (rest : List Operand) (start : Joined) →
        one_by_one (λ o. join_in s (operand_in o)) rest start ≡ one_by_one (λ o. join_in s (record { operator = (out-Operand o).operator; operand = expression_in (out-Operand o).operand })) rest start
    same [] start = refl
    same (o ∷ rest) start = behind (join_in s (operand_in o) start) _ (ap (λ j. join_in s j start) (operand-parts o)) (same rest)
      where
        behind : (p q : CheckResult Joined) → p ≡ q → ((t : Joined) → one_by_one (λ o. join_in s (operand_in o)) rest t ≡ one_by_one (λ o. join_in s (record { operator = (out-Operand o).operator; operand = expression_in (out-Operand o).operand })) rest t) →
            (p >>= one_by_one (λ o. join_in s (operand_in o)) rest) ≡ (q >>= one_by_one (λ o. join_in s (record { operator = (out-Operand o).operator; operand = expression_in (out-Operand o).operand })) rest)
        behind (Gives t) q e f = f t ∙ ap (λ r. r >>= one_by_one (λ o. join_in s (record { operator = (out-Operand o).operator; operand = expression_in (out-Operand o).operand })) rest) e
        behind (Fails w) q e f = ap (λ r. r >>= one_by_one (λ o. join_in s (record { operator = (out-Operand o).operator; operand = expression_in (out-Operand o).operand })) rest) e
