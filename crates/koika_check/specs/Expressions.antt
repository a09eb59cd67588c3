-- What an expression evaluates to where names stand for what a scope says: its type, and the expression with its names
-- resolved, or its first fault. One case for each construct: its parts from left to right, and its own conditions after
-- them. This project's own rules, after the typing of Kôika (Bourgeat et al., PLDI 2020).
use Rattle.std.specs.Prelude.{ℕ, List, [], ◌∷◌, ◌++◌, Option, Some, None}
use Rattle.kw_base.specs.declared.fault_number.TheConstants.{UNKNOWN_NAME}
use Rattle.koika_syntax.specs.declared.operator.BinaryOperator.{BinaryOperator}
use Rattle.koika_syntax.specs.declared.tree.Arm.{Arm-F}
use Rattle.koika_syntax.specs.declared.tree.Block.{Block, Block-F, fold-Block}
use Rattle.koika_syntax.specs.declared.tree.Expression.{Expression-F}
use Rattle.koika_syntax.specs.declared.tree.Expression.TheOpen as expression
use Rattle.koika_syntax.specs.declared.tree.FieldValue.{FieldValue-F}
use Rattle.koika_syntax.specs.declared.tree.Operand.{Operand-F}
use Rattle.koika_syntax.specs.declared.tree.Statement.{Statement-F}
use Rattle.koika_check.specs.Outcomes.{CheckResult, ◌>>=◌, Gives, in_turn, one_by_one, found, wrong}
use Rattle.koika_check.specs.Types.{type_of, width_if, wrong_type}
use Rattle.koika_check.specs.Constructs.{ArmTyping, FieldTyping, Joined, Typing, abort_at, array_in, call, chained, comparison, conditional, extended, join, literal, member_in, named, packed, postfix, read_in, struct_in, typing, unary, unpacked, updated, written}
use Rattle.koika_check.specs.Scopes.{Scope, bound, called, register}
use Rattle.koika_check.specs.declared.typed.BlockStep.{BlockStep}
use Rattle.koika_check.specs.declared.typed.BlockStep.TheVariants as step
use Rattle.koika_check.specs.declared.typed.Typed.TheVariants as typed
use Rattle.koika_check.specs.Kinds.{number_named}
use Rattle.koika_check.specs.declared.things.Kind.TheVariants as kind

-- ---- what the parts of an expression evaluate to

-- a statement that is well typed, and what names stand for after it
pub record Stepping : Type 0 where
  pub step : BlockStep
  pub behind : Scope

-- what each of them evaluates to in a scope
abbrev pub ExpressionTyping : Type 0
ExpressionTyping = Scope → CheckResult Typing

-- what a statement evaluates to in a scope
abbrev pub StatementTyping : Type 0
StatementTyping = Scope → CheckResult Stepping

-- what an arm of an `if` evaluates to in a scope
abbrev pub Armed : Type 0
Armed = Scope → CheckResult ArmTyping

-- what a field's value evaluates to in a scope
abbrev pub Fielded : Type 0
Fielded = Scope → CheckResult FieldTyping

-- an operator, and what its right operand evaluates to
pub record Joining : Type 0 where
  pub operator : BinaryOperator
  pub operand : ExpressionTyping

-- all parts in a scope, from left to right
abbrev pub all_in : {X : Type 0} → Scope → List (Scope → CheckResult X) → CheckResult (List X)
all_in scope = in_turn (λ look. look scope)

-- a chain, operator by operator
abbrev pub join_in : Scope → Joining → Joined → CheckResult Joined
join_in scope next before = next.operand scope >>= λ right. join next.operator right before

-- what a chain of operands evaluates to in a scope
abbrev pub chain_in : Scope → List Joining → Typing → CheckResult Typing
chain_in scope rest first = one_by_one (join_in scope) rest (record { left = first.part; operators = []; operands = first ∷ [] }) >>= λ all. Gives (chained (width_if scope.design first.part.of) all)

-- ---- blocks and arms

-- statements in order, each in the scope that those before it leave
pub record BlockSoFar : Type 0 where
  pub steps : List BlockStep
  pub behind : Scope

-- one statement more of a block
abbrev pub run : StatementTyping → BlockSoFar → CheckResult BlockSoFar
run statement before = statement before.behind >>= λ one. Gives (record { steps = before.steps ++ one.step ∷ []; behind = one.behind })

-- and then the last expression, if there is one
abbrev pub close : (place : ℕ) → Option ExpressionTyping → BlockSoFar → CheckResult Typing
close place None all = Gives (typing None place (typed.Block all.steps))
close place (Some last) all = last all.behind >>= λ value.
    Gives (typing value.part.of place (typed.Block (all.steps ++ step.Give value.typed ∷ [])))

-- what a block evaluates to: its statements in turn, and then its value
abbrev pub block_from : (place : ℕ) → List StatementTyping → Option ExpressionTyping → ExpressionTyping
block_from place statements last scope = one_by_one run statements (record { steps = []; behind = scope }) >>= close place last

-- what the block after the last `else` evaluates to, if there is one
abbrev pub otherwise_in : Scope → Option ExpressionTyping → CheckResult (List Typing)
otherwise_in scope None = Gives []
otherwise_in scope (Some last) = last scope >>= λ body. Gives (body ∷ [])

-- ---- the constructs

-- what an expression evaluates to, by what its parts do
abbrev pub expression_step : Expression-F ExpressionTyping StatementTyping Armed ExpressionTyping Fielded Joining → ExpressionTyping
expression_step (expression.Literal l) scope = Gives (literal l)
expression_step (expression.Name n) scope = named scope n
expression_step (expression.Member of m) scope = member_in scope.design of m
expression_step (expression.Chain first rest) scope = first scope >>= chain_in scope rest
expression_step (expression.Unary prefixes operand) scope = operand scope >>= unary prefixes
expression_step (expression.Postfix primary suffixes) scope = primary scope >>= postfix scope.design suffixes
expression_step (expression.Parentheses place inside) scope = inside scope >>= λ inner. Gives (typing inner.part.of place inner.typed)
expression_step (expression.Block block) scope = block scope
expression_step (expression.If arms otherwise) scope = all_in scope arms >>= λ typed_arms. otherwise_in scope otherwise >>= conditional typed_arms
expression_step (expression.Call n arguments) scope = called scope.design n >>= λ c. all_in scope arguments >>= call n c
expression_step (expression.Struct of fields close) scope = found (number_named kind.Struct scope.design of.text) (wrong UNKNOWN_NAME of.place) >>= λ number.
    all_in scope fields >>= struct_in scope.design number of.place close
expression_step (expression.Array place elements) scope = all_in scope elements >>= array_in scope.design place
expression_step (expression.Read place port r) scope = read_in scope.design place port r
expression_step (expression.Write place port r value) scope = register scope.design r >>= λ number. value scope >>= written scope.design place port number
expression_step (expression.Abort place) scope = Gives (abort_at place)
expression_step (expression.Pack place value) scope = value scope >>= packed scope.design place
expression_step (expression.Unpack place to value) scope = type_of scope.design to >>= λ of. value scope >>= unpacked scope.design place of
expression_step (expression.Extend place extension value width) scope = value scope >>= extended place extension width
expression_step (expression.Compare place o left right) scope = left scope >>= λ one. right scope >>= comparison place o one
expression_step (expression.Update place whole part value) scope = whole scope >>= λ old. value scope >>= updated scope.design place part old

-- `let`: the value isn't unit (22); it is bound in all statements after
abbrev pub statement_step : Statement-F ExpressionTyping StatementTyping Armed ExpressionTyping Fielded Joining → StatementTyping
statement_step (expression.Let n value) scope = value scope >>= λ inner.
    found inner.part.of (wrong_type inner.part) >>= λ of.
    Gives (record { step = step.Let inner.typed; behind = bound n.text of scope })
statement_step (expression.Do value) scope = value scope >>= λ inner. Gives (record { step = step.Do inner.typed; behind = scope })

-- what an arm evaluates to: its condition and its block
abbrev pub arm_step : Arm-F ExpressionTyping StatementTyping Armed ExpressionTyping Fielded Joining → Armed
arm_step arm scope = arm.condition scope >>= λ condition. arm.body scope >>= λ body.
    Gives (record { place = arm.place; condition = condition; body = body })

-- what a block evaluates to, by what its statements and its value do
abbrev pub block_step : Block-F ExpressionTyping StatementTyping Armed ExpressionTyping Fielded Joining → ExpressionTyping
block_step block = block_from block.place block.statements block.value

-- what a field's value evaluates to
abbrev pub field_value_step : FieldValue-F ExpressionTyping StatementTyping Armed ExpressionTyping Fielded Joining → Fielded
field_value_step field scope = field.value scope >>= λ inner. Gives (record { name = field.name; typing = inner })

-- an operator and the operand after it
abbrev pub operand_step : Operand-F ExpressionTyping StatementTyping Armed ExpressionTyping Fielded Joining → Joining
operand_step operand = record { operator = operand.operator; operand = operand.operand }

-- ---- what whole expressions evaluate to

-- what a block evaluates to in a scope
unfoldable pub block_in : Block → ExpressionTyping
block_in = fold-Block ExpressionTyping StatementTyping Armed ExpressionTyping Fielded Joining expression_step statement_step arm_step block_step field_value_step operand_step
