-- The occurrences of a rule's body: the reads, the writes, the inputs and the calls of tables and host functions in its
-- typed tree, those that never run too, with a function's body read at each call of it; and which of them are earlier
-- than which, in the order of evaluation of Kôika's actions (Bourgeat et al., PLDI 2020). It says nothing of what they
-- evaluate to.
use Rattle.std.specs.Prelude.{ℕ, List, [], ◌∷◌, ◌++◌, length, map, take, Option, Some, None, slice_get}
use Rattle.std.specs.List.{flat_map}
use Rattle.typed_core.specs.Laws.{read_at, write_at}
use Rattle.koika_check.specs.declared.checked.Checked.{Checked}
use Rattle.koika_check.specs.declared.checked.CheckedFunction.{CheckedFunction}
use Rattle.koika_check.specs.declared.checked.CheckedRule.{CheckedRule}
use Rattle.koika_check.specs.declared.typed.Operation.{Operation}
use Rattle.koika_check.specs.declared.typed.Operation.TheVariants as operation
use Rattle.koika_check.specs.declared.typed.BlockStep.{BlockStep, BlockStep-F}
use Rattle.koika_check.specs.declared.typed.BlockStep.TheOpen as typed
use Rattle.koika_check.specs.declared.typed.Typed.{Typed, Typed-F, fold-Typed}
use Rattle.lab_lint.specs.declared.occurrence.Occurrence.{Occurrence}
use Rattle.lab_lint.specs.declared.occurrence.Occurrence.TheVariants as occurrence

-- ---- parts of a body

-- two occurrences, of which the first is earlier than the second
pub record Pair : Type 0 where
  pub earlier : Occurrence
  pub later : Occurrence

-- the occurrences of a part of a body in order, and the pairs of them of which one is earlier
pub record Part : Type 0 where
  pub all : List Occurrence
  pub pairs : List Pair

-- a part without occurrences
abbrev pub nothing : Part
nothing = record { all = []; pairs = [] }

-- a part that is one occurrence
abbrev pub one : Occurrence → Part
one o = record { all = o ∷ []; pairs = [] }

-- each of the first before each of the second
abbrev pub each_before_each : List Occurrence → List Occurrence → List Pair
each_before_each firsts seconds =
    flat_map
    (λ (a : Occurrence). map (λ (b : Occurrence). let p : Pair = record { earlier = a; later = b } in p) seconds)
    firsts

-- one part and then another
abbrev pub in_order : Part → Part → Part
in_order a b = record { all = a.all ++ b.all; pairs = (a.pairs ++ b.pairs) ++ each_before_each a.all b.all }

-- one of two parts: nothing in the one is earlier than anything in the other
abbrev pub either : Part → Part → Part
either a b = record { all = a.all ++ b.all; pairs = a.pairs ++ b.pairs }

-- parts from left to right
abbrev pub in_turn : List Part → Part
in_turn [] = nothing
in_turn (p ∷ parts) = in_order p (in_turn parts)

-- A condition, and then its body or what is after its `else`, which is one arm: the next condition, or the last body.
abbrev pub choice : (conditions bodies : List Part) → Part
choice (c ∷ conditions) (b ∷ bodies) = in_order c (either b (choice conditions bodies))
choice [] (last ∷ rest) = last
choice conditions bodies = nothing

-- ---- expressions

-- the part of this number, if there is one
abbrev pub part_if : Option Part → Part
part_if None = nothing
part_if (Some p) = p

-- what an operation does after its operands, with these parts for the bodies of the functions that may be called
abbrev pub own : List Part → Operation → Part
own bodies (operation.Read port register) = one (occurrence.Access (read_at port register))
own bodies (operation.Write port register) = one (occurrence.Access (write_at port register))
own bodies (operation.Table number) = one (occurrence.Table number)
own bodies (operation.Host number) = one (occurrence.Host number)
own bodies (operation.Call number) = part_if (slice_get bodies number)
own bodies o = nothing

-- operands, arguments, items and fields from left to right, and then the operation; steps one after another
abbrev pub typed_step : List Part → Typed-F Part Part → Part
typed_step bodies (typed.Constant v) = nothing
typed_step bodies (typed.Local index) = nothing
typed_step bodies (typed.Input number) = one (occurrence.Input number)
typed_step bodies (typed.Apply o operands) = in_order (in_turn operands) (own bodies o)
typed_step bodies (typed.If conditions bodies') = choice conditions bodies'
typed_step bodies (typed.Block steps) = in_turn steps

-- a step is the expression in it
abbrev pub step_step : BlockStep-F Part Part → Part
step_step (typed.Let value) = value
step_step (typed.Do value) = value
step_step (typed.Give value) = value

-- the part that an expression is
unfoldable pub part_of : List Part → Typed → Part
part_of bodies = fold-Typed Part Part step_step (typed_step bodies)

-- ---- rules

-- the bodies of functions, each of which calls those before it
abbrev pub bodies_behind : List Part → List CheckedFunction → List Part
bodies_behind before [] = before
bodies_behind before (f ∷ functions) = bodies_behind (before ++ part_of before f.body ∷ []) functions

-- those of the first that many functions
abbrev pub bodies_before : Checked → (functions : ℕ) → List Part
bodies_before d functions = bodies_behind [] (take functions d.functions)

-- the body of a rule, in which all functions may be called
abbrev pub body_if : Checked → Option CheckedRule → Part
body_if d None = nothing
body_if d (Some r) = part_of (bodies_before d (length d.functions)) r.body

-- the body of the rule of a number, without occurrences where there is none
unfoldable pub rule_part : Checked → (rule : ℕ) → Part
rule_part d rule = body_if d (slice_get d.rules rule)
