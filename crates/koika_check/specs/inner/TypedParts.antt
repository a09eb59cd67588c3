-- What the parts of an expression that are looked at in order evaluate to: operands, fields, arms, statements. All of
-- it serves private functions alone.
use Rattle.std.specs.Prelude.{◌≡◌, ℕ, ◌++◌, map, List, [], ◌∷◌, Option, Some, None, IfSome}
use Rattle.koika_syntax.specs.declared.operator.BinaryOperator.{BinaryOperator}
use Rattle.koika_syntax.specs.declared.tree.Name.{Name}
use Rattle.koika_check.specs.inner.Checking.{AreGiven, AreTyped, IsPart, arrays_of, scope_of, typing_of}
use Rattle.koika_check.specs.Composites.{fields_of}
use Rattle.koika_check.specs.Constructs as constructs
use Rattle.koika_check.specs.Expressions.{BlockSoFar, Stepping}
use Rattle.koika_check.specs.Outcomes.{CheckResult, ◌>>=◌, Gives, found}
use Rattle.koika_check.specs.Scopes.{Local, Scope, bound}
use Rattle.koika_check.specs.inner.Shapes.{part_of}
use Rattle.koika_check.specs.Types.{wrong_type}
use Rattle.koika_check.specs.declared.agreement.Part.{Part}
use Rattle.koika_check.specs.declared.checker.Checker.{Checker}
use Rattle.koika_check.specs.declared.checker.Typing.{Typing}
use Rattle.koika_check.specs.declared.expressions.Arms.{Arms}
use Rattle.koika_check.specs.declared.expressions.TypedFields.{TypedFields}
use Rattle.koika_check.specs.declared.typed.BlockStep.{BlockStep}
use Rattle.koika_check.specs.declared.typed.BlockStep.TheVariants as step
use Rattle.koika_check.specs.declared.typed.Typed.{Typed}

-- a value stands for one of outcomes, and names stand for what this scope says
pub record In {X Y : Type 0} (Means : Checker → Y → X → Type 0) (scope : Scope) (c : Checker) (y : Y) (x : X) : Type 0 where
  pub scope_is : scope_of c ≡ scope
  pub means : Means c y x

-- ---- fields

-- the fields of a struct
pub record AreTypedFields (number : ℕ) (c : Checker) (y : TypedFields) (xs : List constructs.FieldTyping) : Type 0 where
  pub given : AreGiven c (fields_of c.design number) (fields_of c.design number) y.given (map constructs.given_of xs)
  pub typed : constructs.typed_of (map (λ (x : constructs.FieldTyping). x.typing) xs) ≡ y.typed

-- ---- chains

-- the part that the operands so far make, their operators, and the operands
pub record Chained : Type 0 where
  pub left : Part
  pub operators : List BinaryOperator
  pub operands : List Typed

pub record IsChained (c : Checker) (y : Chained) (x : constructs.Joined) : Type 0 where
  pub left : x.left ≡ part_of (arrays_of c) y.left
  pub type : IsPart c y.left
  pub operators : x.operators ≡ y.operators
  pub operands : constructs.typed_of x.operands ≡ y.operands

-- ---- `if`

-- the place of the first arm
abbrev pub place_of_first : List constructs.ArmTyping → Option ℕ
place_of_first [] = None
place_of_first (x ∷ xs) = Some x.place

-- the arms
pub record AreArms (c : Checker) (y : Arms) (xs : List constructs.ArmTyping) : Type 0 where
  pub place : place_of_first xs ≡ y.place
  pub conditions : AreTyped c y.conditions (map (λ (x : constructs.ArmTyping). x.condition) xs)
  pub bodies : AreTyped c y.bodies (map (λ (x : constructs.ArmTyping). x.body) xs)

-- the body after `else`, if there is one
abbrev pub typings_of : Checker → Option Typing → List constructs.Typing
typings_of c None = []
typings_of c (Some y) = typing_of c y ∷ []

pub record IsLast (c : Checker) (y : Option Typing) (xs : List constructs.Typing) : Type 0 where
  pub last : xs ≡ typings_of c y
  pub type : IfSome y (λ t. IsPart c t.part)

-- ---- statements

-- what `let` does after its value
abbrev pub bound_step : Name → Scope → constructs.Typing → CheckResult Stepping
bound_step n scope inner = found inner.part.of (wrong_type inner.part) >>= λ of. Gives (record { step = step.Let inner.typed; behind = bound n.text of scope })

-- a step, after which names stand for what it leaves: locals were bound inside
pub record IsStep (scope : Scope) (c : Checker) (y : BlockStep) (x : Stepping) : Type 0 where
  pub step : x.step ≡ y
  pub behind : scope_of c ≡ x.behind
  pub inner : (more : List Local) × (x.behind.locals ≡ more ++ scope.locals)

pub record AreSteps (scope : Scope) (c : Checker) (y : List BlockStep) (x : BlockSoFar) : Type 0 where
  pub steps : x.steps ≡ y
  pub behind : scope_of c ≡ x.behind
  pub inner : (more : List Local) × (x.behind.locals ≡ more ++ scope.locals)
