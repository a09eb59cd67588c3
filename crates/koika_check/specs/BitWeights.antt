-- The bit weight of a design, which tells how many gates its circuit may have: a measure of its weight, of its products and
-- of its scheduler's registers. A call counts what its function's body counts, each time. This project's own measure.
use Rattle.std.specs.Prelude.{ℕ, ◌+◌, ◌*◌, map, sum_by, List, [], ◌∷◌, ◌++◌, length, Option, Some, None, slice_get}
use Rattle.koika_syntax.specs.declared.operator.BinaryOperator.{BinaryOperator}
use Rattle.koika_syntax.specs.declared.operator.BinaryOperator.TheVariants as binary
use Rattle.typed_core.specs.declared.design.Node.{Node}
use Rattle.koika_check.specs.Sizes.{design_size}
use Rattle.koika_check.specs.declared.checked.Checked.{Checked}
use Rattle.koika_check.specs.declared.checked.CheckedFunction.{CheckedFunction}
use Rattle.koika_check.specs.declared.checked.Register.{Register}
use Rattle.koika_check.specs.declared.checked.CheckedRule.{CheckedRule}
use Rattle.koika_check.specs.declared.typed.Operation.{Operation}
use Rattle.koika_check.specs.declared.typed.Operation.TheVariants as operation
use Rattle.koika_check.specs.declared.typed.BlockStep.{BlockStep-F}
use Rattle.koika_check.specs.declared.typed.BlockStep.TheOpen as typed
use Rattle.koika_check.specs.declared.typed.Typed.{Typed, Typed-F, fold-Typed}

-- ---- expressions

-- all squares of some parts
abbrev pub squares_in : List ℕ → ℕ
squares_in = sum_by (λ squares. squares)

-- the squares of a part, if it is there
abbrev pub squares_if : Option ℕ → ℕ
squares_if None = 0
squares_if (Some squares) = squares

-- what an operator between operands of this width adds: `*` its square
abbrev pub square : (width : ℕ) → BinaryOperator → ℕ
square width binary.Multiply = width * width
square width o = 0

-- What an operation adds to the squares of its operands. A chain with a `*` has operators of the level of `*` alone, which is
-- why all its operands are as wide as the first. A call adds what its function's body has.
abbrev pub own_squares : (bodies : List ℕ) → Operation → ℕ
own_squares bodies (operation.Chain operators width) = sum_by (square width) operators
own_squares bodies (operation.Call number) = squares_if (slice_get bodies number)
own_squares bodies o = 0

-- the squares of a step of a block: its value's
abbrev pub step_step : BlockStep-F ℕ ℕ → ℕ
step_step (typed.Let value) = value
step_step (typed.Do value) = value
step_step (typed.Give value) = value

-- the squares of an expression, by those of its parts
abbrev pub typed_step : (bodies : List ℕ) → Typed-F ℕ ℕ → ℕ
typed_step bodies (typed.Constant value) = 0
typed_step bodies (typed.Local index) = 0
typed_step bodies (typed.Input number) = 0
typed_step bodies (typed.Apply o operands) = squares_in operands + own_squares bodies o
typed_step bodies (typed.If conditions arms) = squares_in conditions + squares_in arms
typed_step bodies (typed.Block steps) = squares_in steps

-- the squares of an expression, where the bodies of functions have these: the sum of w * w over its operators `*` on w bits
unfoldable pub squares : (bodies : List ℕ) → Typed → ℕ
squares bodies = fold-Typed ℕ ℕ step_step (typed_step bodies)

-- ---- designs

-- the squares of functions' bodies, each of which calls those before it
abbrev pub bodies_after : (before : List ℕ) → List CheckedFunction → List ℕ
bodies_after before [] = before
bodies_after before (f ∷ functions) = bodies_after (before ++ squares before f.body ∷ []) functions

-- the squares of a rule's body
abbrev pub rule_squares : Checked → CheckedRule → ℕ
rule_squares d r = squares (bodies_after [] d.functions) r.body

-- the squares of a node's rule
abbrev pub node_squares : Checked → Node → ℕ
node_squares d n = squares_if (slice_get (map (rule_squares d) d.rules) n.rule)

-- those of all rules, and for each node of the scheduler those of its rule
abbrev pub squares_of : Checked → ℕ
squares_of d = sum_by (rule_squares d) d.rules + sum_by (node_squares d) d.nodes

-- how many bits all registers have
abbrev pub register_bits : Checked → ℕ
register_bits d = sum_by (λ (r : Register). r.width) d.registers

-- 128 for each unit of the weight, the squares, and the registers' bits for each node of the scheduler
abbrev pub bit_weight : Checked → ℕ
bit_weight d = 128 * (design_size d).weight + squares_of d + length d.nodes * register_bits d
