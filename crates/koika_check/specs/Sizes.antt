-- The weight and the depth of an expression whose names are resolved, and those of a design. A call weighs what its
-- function's body weighs, each time. They bound what a design becomes where its functions are written in. This project's
-- own measures.
use Rattle.std.specs.Prelude.{ℕ, zero, suc, ◌+◌, ◌-◌, ◌^◌, max, map, sum_by, List, [], ◌∷◌, ◌++◌, length, Option, Some, None, slice_get}
use Rattle.typed_core.specs.declared.design.Node.{Node}
use Rattle.koika_check.specs.declared.checked.Checked.{Checked}
use Rattle.koika_check.specs.declared.checked.CheckedFunction.{CheckedFunction}
use Rattle.koika_check.specs.declared.checked.Host.{Host}
use Rattle.koika_check.specs.declared.checked.CheckedRule.{CheckedRule}
use Rattle.koika_check.specs.declared.checked.Table.{Table}
use Rattle.koika_check.specs.declared.typed.Operation.{Operation}
use Rattle.koika_check.specs.declared.typed.Operation.TheVariants as operation
use Rattle.koika_check.specs.declared.typed.BlockStep.{BlockStep-F}
use Rattle.koika_check.specs.declared.typed.Typed.{Typed, Typed-F, fold-Typed}
use Rattle.koika_check.specs.declared.typed.BlockStep.TheOpen as typed

-- a weight and a depth
pub record Size : Type 0 where
  pub weight : ℕ
  pub depth : ℕ

-- a weight and a depth
abbrev pub size : (weight depth : ℕ) → Size
size weight depth = record { weight = weight; depth = depth }

-- the weights of parts together, and the greatest of their depths
abbrev pub weights : List Size → ℕ
weights = sum_by (λ (s : Size). s.weight)

-- the greatest of some depths
abbrev pub deepest : List ℕ → ℕ
deepest [] = 0
deepest (depth ∷ depths) = max depth (deepest depths)

-- the greatest depth of some parts
abbrev pub depths : List Size → ℕ
depths parts = deepest (map (λ (s : Size). s.depth) parts)

-- each depth and so much more: the first `from`, and one more at each part
abbrev pub rising : (from : ℕ) → List Size → List ℕ
rising from [] = []
rising from (s ∷ parts) = (from + s.depth) ∷ rising (from + 1) parts

-- one less at each part
abbrev pub falling : (from : ℕ) → List Size → List ℕ
falling from [] = []
falling from (s ∷ parts) = (from + s.depth) ∷ falling (from - 1) parts

-- what calls rest on: the design's tables and host functions, and the sizes of its functions' bodies
pub record Rests : Type 0 where
  pub design : Checked
  pub bodies : List Size

-- the input width of a table
abbrev pub input_of_table : Option Table → ℕ
input_of_table None = 0
input_of_table (Some t) = t.spec.in_width

-- the input width of a host function
abbrev pub input_of_host : Option Host → ℕ
input_of_host None = 0
input_of_host (Some h) = h.spec.in_width

-- the size of a function's body
abbrev pub body_of : Option Size → Size
body_of None = size 0 0
body_of (Some body) = body

-- side by side; each one deeper than the one before, the first by one
abbrev pub side_by_side : List Size → Size
side_by_side parts = size (weights parts) (depths parts)

-- parts beside one another, one level below
abbrev pub one_deeper : List Size → Size
one_deeper parts = size (weights parts) (deepest (rising 1 parts))

-- the operands of a chain of n operators: the first operand's depth and n, or n - i + 1 and that of operand i
abbrev pub chain_depths : ℕ → List Size → List ℕ
chain_depths n [] = []
chain_depths n (first ∷ rest) = (n + first.depth) ∷ falling n rest

-- a chain of that many operators over these parts
abbrev pub chain_size : ℕ → List Size → Size
chain_size n parts = size (weights parts) (deepest (chain_depths n parts))

-- one size and more weight; one size below so much; two sizes side by side
abbrev pub heavier : ℕ → Size → Size
heavier weight s = size (weight + s.weight) s.depth

-- a size that many levels deeper
abbrev pub deeper : ℕ → Size → Size
deeper depth s = size s.weight (depth + s.depth)

-- two parts beside one another
abbrev pub both : Size → Size → Size
both a b = size (a.weight + b.weight) (max a.depth b.depth)

-- what operations weigh besides their parts: a run of k prefix operators or of k suffixes k, a call of a table or host
-- function 2^input width, every other 1
abbrev pub own_weight : Checked → Operation → ℕ
own_weight d (operation.Unary operators) = length operators
own_weight d (operation.Select selections) = length selections
own_weight d (operation.Table table) = 2 ^ input_of_table (slice_get d.tables table)
own_weight d (operation.Host host) = 2 ^ input_of_host (slice_get d.hosts host)
own_weight d o = 1

-- how deep below an operation its parts are: k, below a table or host function as many as the arguments, else 1
abbrev pub own_depth : Operation → (parts : ℕ) → ℕ
own_depth (operation.Unary operators) parts = length operators
own_depth (operation.Select selections) parts = length selections
own_depth (operation.Table table) parts = parts
own_depth (operation.Host host) parts = parts
own_depth o parts = 1

-- the size of an operation on operands
abbrev pub operation_size : Rests → Operation → List Size → Size
-- a chain of n operators: n and its operands
operation_size r (operation.Chain operators width) parts = heavier (length operators) (chain_size (length operators) parts)
-- a call of a function with p arguments: 1, its arguments and the body; j and the depth of argument j, or p + 1 and the body's
operation_size r (operation.Call function) parts =
    heavier 1 (both (one_deeper parts) (deeper (length parts + 1) (body_of (slice_get r.bodies function))))
operation_size r o parts = heavier (own_weight r.design o) (deeper (own_depth o (length parts)) (side_by_side parts))

-- a step of a block: its size, and whether it is a statement
pub record StepSize : Type 0 where
  pub statement : ℕ
  pub value : Size

-- a block: 1, and for each statement 1 and its value, and the last expression; j and the depth of statement j, or one more
-- than the statements and the last expression's depth
abbrev pub steps_depths : (from : ℕ) → List StepSize → List ℕ
steps_depths from [] = from ∷ []
steps_depths from (s ∷ steps) = (from + s.value.depth) ∷ steps_depths (from + s.statement) steps

-- the statements of a block, each one level deeper than the one before
abbrev pub steps_size : List StepSize → Size
steps_size steps = size (sum_by (λ (s : StepSize). s.statement + s.value.weight) steps) (deepest (steps_depths 1 steps))

-- an `if` of m arms: m, and all conditions and bodies; j and the depths of arm j, or m and that of the last body
abbrev pub bodies_depths : (from arms : ℕ) → List Size → List ℕ
bodies_depths from arms [] = []
bodies_depths from zero (last ∷ rest) = (from - 1 + last.depth) ∷ bodies_depths from zero rest
bodies_depths from (suc arms) (body ∷ rest) = (from + body.depth) ∷ bodies_depths (from + 1) arms rest

-- the arms of an `if`
abbrev pub arms_size : (arms : ℕ) → List Size → Size
arms_size arms bodies = size (weights bodies) (deepest (bodies_depths 1 arms bodies))

-- the size of an expression, by the sizes of its parts
abbrev pub typed_step : Rests → Typed-F StepSize Size → Size
-- a literal, a member, a name: 1
typed_step r (typed.Constant value) = size 1 1
typed_step r (typed.Local index) = size 1 1
typed_step r (typed.Input number) = size 1 1
typed_step r (typed.Apply o operands) = operation_size r o operands
typed_step r (typed.If conditions bodies) = heavier (length conditions) (both (one_deeper conditions) (arms_size (length conditions) bodies))
typed_step r (typed.Block steps) = heavier 1 (steps_size steps)

-- the size of a statement
abbrev pub step_step : BlockStep-F StepSize Size → StepSize
step_step (typed.Let value) = record { statement = 1; value = value }
step_step (typed.Do value) = record { statement = 1; value = value }
step_step (typed.Give value) = record { statement = 0; value = value }

-- the size of an expression
unfoldable pub size_of : Rests → Typed → Size
size_of r = fold-Typed StepSize Size step_step (typed_step r)

-- the sizes of functions' bodies, each of which rests on those before it
abbrev pub bodies_behind : Checked → List Size → List CheckedFunction → List Size
bodies_behind d before [] = before
bodies_behind d before (f ∷ functions) = bodies_behind d (before ++ size_of (record { design = d; bodies = before }) f.body ∷ []) functions

-- what the rules of a design rest on
abbrev pub rests : Checked → Rests
rests d = record { design = d; bodies = bodies_behind d [] d.functions }

-- the sizes of the rules' bodies
abbrev pub rule_sizes : Checked → List Size
rule_sizes d = map (λ (r : CheckedRule). size_of (rests d) r.body) d.rules

-- for each node of the scheduler what its rule's body weighs
abbrev pub node_weights : List Size → List Node → ℕ
node_weights rules = sum_by (λ (n : Node). (body_of (slice_get rules n.rule)).weight)

-- a design weighs what its rules' bodies weigh, and for each node of the scheduler what its rule's body weighs; it is as
-- deep as the deepest rule's body
abbrev pub design_size : Checked → Size
design_size d = size
    (weights (rule_sizes d) + node_weights (rule_sizes d) d.nodes)
    (depths (rule_sizes d))
