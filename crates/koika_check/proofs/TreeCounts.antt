-- A measure of typed trees that is less for their parts, how many expressions and steps there are in one, and what the bodies of
-- the functions that may be called add to it.
use Rattle.std.proofs.Common.{◌≡◌, ℕ, zero, suc, ◌+◌, ◌*◌, ◌≤◌, ◌<◌, List, [], ◌∷◌, length, get_or, take, sum_by, Some, slice_get, ap, sym, ◌∙◌, arith}
use Rattle.std.proofs.lemmas.List.Sums.{sum_by-cons, sum_by_more_le}
use Rattle.koika_types.proofs.Sizes.{sum_by-map}
use Rattle.koika_check.specs.declared.checked.CheckedFunction.{CheckedFunction}
use Rattle.koika_check.specs.declared.typed.Operation.{Operation}
use Rattle.koika_check.specs.declared.typed.BlockStep.{BlockStep, BlockStep-F, fold-BlockStep, fold-roll-BlockStep}
use Rattle.koika_check.specs.declared.typed.BlockStep.TheOpen as opened
use Rattle.koika_check.specs.declared.typed.BlockStep.TheVariants as step
use Rattle.koika_check.specs.declared.typed.Typed.{Typed, Typed-F, fold-Typed, fold-roll-Typed}
use Rattle.koika_check.specs.declared.typed.Typed.TheVariants as typed

abbrev step_part : BlockStep-F ℕ ℕ → ℕ
step_part (opened.Let n) = n + 1
step_part (opened.Do n) = n + 1
step_part (opened.Give n) = n + 1

abbrev typed_part : Typed-F ℕ ℕ → ℕ
typed_part (opened.Constant v) = 1
typed_part (opened.Local index) = 1
typed_part (opened.Input number) = 1
typed_part (opened.Apply o counts) = sum_by (λ n. n) counts + 1
typed_part (opened.If conditions bodies) = sum_by (λ n. n) conditions + sum_by (λ n. n) bodies + 1
typed_part (opened.Block counts) = sum_by (λ n. n) counts + 1

abbrev pub count : Typed → ℕ
count = fold-Typed ℕ ℕ step_part typed_part

abbrev pub count_step : BlockStep → ℕ
count_step = fold-BlockStep ℕ ℕ step_part typed_part

pub count-Apply : (o : Operation) (es : List Typed) → count (typed.Apply o es) ≡ sum_by count es + 1
count-Apply o es = ap count (sym (typed.rolls-Apply o es)) ∙ fold-roll-Typed ℕ ℕ step_part typed_part (opened.Apply o es) ∙ ap (λ k. k + 1) (sum_by-map (λ n. n) count es)

pub count-If : (cs bs : List Typed) → count (typed.If cs bs) ≡ sum_by count cs + sum_by count bs + 1
count-If cs bs =
    ap count (sym (typed.rolls-If cs bs)) ∙ fold-roll-Typed ℕ ℕ step_part typed_part (opened.If cs bs) ∙
    (λ i. sum_by-map (λ n. n) count cs i + sum_by-map (λ n. n) count bs i + 1)

pub count-Block : (steps : List BlockStep) → count (typed.Block steps) ≡ sum_by count_step steps + 1
count-Block steps = ap count (sym (typed.rolls-Block steps)) ∙ fold-roll-Typed ℕ ℕ step_part typed_part (opened.Block steps) ∙ ap (λ k. k + 1) (sum_by-map (λ n. n) count_step steps)

pub count-Let : (v : Typed) → count_step (step.Let v) ≡ count v + 1
count-Let v = ap count_step (sym (step.rolls-Let v)) ∙ fold-roll-BlockStep ℕ ℕ step_part typed_part (opened.Let v)

pub count-Do : (v : Typed) → count_step (step.Do v) ≡ count v + 1
count-Do v = ap count_step (sym (step.rolls-Do v)) ∙ fold-roll-BlockStep ℕ ℕ step_part typed_part (opened.Do v)

pub count-Give : (v : Typed) → count_step (step.Give v) ≡ count v + 1
count-Give v = ap count_step (sym (step.rolls-Give v)) ∙ fold-roll-BlockStep ℕ ℕ step_part typed_part (opened.Give v)

pub count-one : (es : List Typed) (k : ℕ) (e : Typed) → k < length es → e ≡ get_or es k e → count e ≤ sum_by count es
count-one es k e below is = omega (arith, sum_by_more_le count es k e below, ap count is)

pub count-step : (steps : List BlockStep) (k : ℕ) (s : BlockStep) → k < length steps → s ≡ get_or steps k s → count_step s ≤ sum_by count_step steps
count-step steps k s below is = omega (arith, sum_by_more_le count_step steps k s below, ap count_step is)

-- ---- the bodies of functions

-- what a call of the function adds
abbrev body_cost : CheckedFunction → ℕ
body_cost f = 4 * count f.body + 1

-- what calls of these functions add
abbrev pub calls : List CheckedFunction → ℕ
calls = sum_by body_cost

pub calls-behind : (fs : List CheckedFunction) (number : ℕ) (f : CheckedFunction) → slice_get fs number ≡ Some f → calls (take number fs) + 4 * count f.body + 1 ≤ calls fs
calls-behind [] number f at = absurd (cc)
calls-behind (g ∷ fs) zero f at =
    let same : g ≡ f = cc in
    omega (arith, sum_by-cons body_cost g fs, ap body_cost same)
calls-behind (g ∷ fs) (suc number) f at =
    omega (arith, sum_by-cons body_cost g fs, sum_by-cons body_cost g (take number fs), calls-behind fs number f at)
