-- The squares of an expression, by those of its parts, and of the bodies of functions, by their numbers.
use Rattle.std.proofs.Common.{◌≡◌, ℕ, suc, ◌+◌, List, [], ◌∷◌, ◌++◌, length, take, sum_by, Some, slice_get, refl, ap, ap₂, sym, ◌∙◌, arith}
use Rattle.std.proofs.lemmas.List.{take_all}
use Rattle.koika_types.specs.declared.value.Value.{Value}
use Rattle.koika_types.proofs.Sizes.{sum_by-map}
use Rattle.koika_check.specs.BitWeights.{bodies_after, own_squares, squares, step_step, typed_step}
use Rattle.koika_check.specs.inner.BitWeights.{cap, step_squares}
use Rattle.koika_check.specs.declared.checked.CheckedFunction.{CheckedFunction}
use Rattle.koika_check.specs.declared.typed.Operation.{Operation}
use Rattle.koika_check.specs.declared.typed.BlockStep.{BlockStep, fold-roll-BlockStep}
use Rattle.koika_check.specs.declared.typed.BlockStep.TheOpen as opened
use Rattle.koika_check.specs.declared.typed.BlockStep.TheVariants as step
use Rattle.koika_check.specs.declared.typed.Typed.{Typed, fold-roll-Typed}
use Rattle.koika_check.specs.declared.typed.Typed.TheVariants as typed
use Rattle.koika_check.proofs.Accumulations.{accumulated, accumulated-at}

-- ---- expressions

pub squares-Constant : (b : List ℕ) (v : Value) → squares b (typed.Constant v) ≡ 0
unfolding squares
squares-Constant b v = ap (squares b) (sym (typed.rolls-Constant v)) ∙ fold-roll-Typed ℕ ℕ step_step (typed_step b) (opened.Constant v)

pub squares-Local : (b : List ℕ) (index : ℕ) → squares b (typed.Local index) ≡ 0
unfolding squares
squares-Local b index = ap (squares b) (sym (typed.rolls-Local index)) ∙ fold-roll-Typed ℕ ℕ step_step (typed_step b) (opened.Local index)

pub squares-Input : (b : List ℕ) (number : ℕ) → squares b (typed.Input number) ≡ 0
unfolding squares
squares-Input b number = ap (squares b) (sym (typed.rolls-Input number)) ∙ fold-roll-Typed ℕ ℕ step_step (typed_step b) (opened.Input number)

pub squares-Apply : (b : List ℕ) (o : Operation) (es : List Typed) → squares b (typed.Apply o es) ≡ sum_by (squares b) es + own_squares b o
unfolding squares
squares-Apply b o es =
    ap (squares b) (sym (typed.rolls-Apply o es)) ∙ fold-roll-Typed ℕ ℕ step_step (typed_step b) (opened.Apply o es) ∙ ap (λ n. n + own_squares b o) (sum_by-map (λ n. n) (squares b) es)

pub squares-If : (b : List ℕ) (cs bs : List Typed) → squares b (typed.If cs bs) ≡ sum_by (squares b) cs + sum_by (squares b) bs
unfolding squares
squares-If b cs bs =
    ap (squares b) (sym (typed.rolls-If cs bs)) ∙ fold-roll-Typed ℕ ℕ step_step (typed_step b) (opened.If cs bs)
    ∙ ap₂ (λ m n. m + n) (sum_by-map (λ n. n) (squares b) cs) (sum_by-map (λ n. n) (squares b) bs)

pub squares-Block : (b : List ℕ) (steps : List BlockStep) → squares b (typed.Block steps) ≡ sum_by (step_squares b) steps
unfolding squares step_squares
squares-Block b steps = ap (squares b) (sym (typed.rolls-Block steps)) ∙ fold-roll-Typed ℕ ℕ step_step (typed_step b) (opened.Block steps) ∙ sum_by-map (λ n. n) (step_squares b) steps

pub squares-Let : (b : List ℕ) (v : Typed) → step_squares b (step.Let v) ≡ squares b v
unfolding squares step_squares
squares-Let b v = ap (step_squares b) (sym (step.rolls-Let v)) ∙ fold-roll-BlockStep ℕ ℕ step_step (typed_step b) (opened.Let v)

pub squares-Do : (b : List ℕ) (v : Typed) → step_squares b (step.Do v) ≡ squares b v
unfolding squares step_squares
squares-Do b v = ap (step_squares b) (sym (step.rolls-Do v)) ∙ fold-roll-BlockStep ℕ ℕ step_step (typed_step b) (opened.Do v)

pub squares-Give : (b : List ℕ) (v : Typed) → step_squares b (step.Give v) ≡ squares b v
unfolding squares step_squares
squares-Give b v = ap (step_squares b) (sym (step.rolls-Give v)) ∙ fold-roll-BlockStep ℕ ℕ step_step (typed_step b) (opened.Give v)

-- sums of what is counted
pub cap-sum : (m n : ℕ) → cap (cap m + cap n) ≡ cap (m + n)
cap-sum m n = grind arith

pub ruleset square_equations = (squares-Constant, squares-Local, squares-Input, squares-Apply, squares-If, squares-Block, squares-Let, squares-Do, squares-Give, cap-sum)

-- ---- functions

-- the squares of a function's body, by those of the bodies before it
abbrev pub function_squares : List ℕ → CheckedFunction → ℕ
function_squares before f = squares before f.body

pub bodies-are : (before : List ℕ) (fs : List CheckedFunction) → bodies_after before fs ≡ accumulated function_squares before fs
bodies-are before [] = refl
bodies-are before (f ∷ fs) = bodies-are (before ++ function_squares before f ∷ []) fs

pub body-at : (fs : List CheckedFunction) (number : ℕ) (f : CheckedFunction) → slice_get fs number ≡ Some f → slice_get (bodies_after [] fs) number ≡ Some (squares (bodies_after [] (take number fs)) f.body)
body-at fs number f at =
    let n : ℕ = length fs + suc number in
    ap (λ gs. slice_get (bodies_after [] gs) number) (sym (take_all n fs (omega arith))) ∙ ap (λ bs. slice_get bs number) (bodies-are [] (take n fs))
    ∙ accumulated-at function_squares fs n number f (omega arith) at ∙ ap (λ bs. Some (squares bs f.body)) (sym (bodies-are [] (take number fs)))
