-- What lowering a function's body at each call costs: the bodies of the functions before a number.
use Rattle.std.proofs.Common.{◌≡◌, ℕ, zero, suc, ◌+◌, ◌*◌, ◌≤◌, ◌<◌, List, [], ◌∷◌, length, take, sum_by, Some, slice_get, ap, ◌∙◌, arith}
use Rattle.std.proofs.lemmas.List.Sums.{sum_by-cons}
use Rattle.koika_check.specs.declared.checked.Checked.{Checked}
use Rattle.koika_check.specs.declared.checked.CheckedFunction.{CheckedFunction}
use Rattle.koika_check.specs.declared.typed.BlockStep.{BlockStep}
use Rattle.koika_check.proofs.TreeCounts.{count, count_step}

-- a step and those after it
pub count-first : (steps rest : List BlockStep) (first : BlockStep) → steps ≡ first ∷ rest → sum_by count_step steps ≡ count_step first + sum_by count_step rest
count-first steps rest first e = ap (sum_by count_step) e ∙ sum_by-cons count_step first rest

-- what a call of the function adds
abbrev body_cost : CheckedFunction → ℕ
body_cost f = 4 * count f.body + length f.parameters + 2

costs-behind : (fs : List CheckedFunction) (n number : ℕ) (f : CheckedFunction) → number < n → slice_get fs number ≡ Some f → sum_by body_cost (take number fs) + body_cost f ≤ sum_by body_cost (take n fs)
costs-behind [] n number f below at = absurd (cc)
costs-behind (g ∷ fs) zero number f below at = absurd (omega arith)
costs-behind (g ∷ fs) (suc n) zero f below at =
    let same : g ≡ f = cc in
    omega (arith, sum_by-cons body_cost g (take n fs), ap body_cost same)
costs-behind (g ∷ fs) (suc n) (suc number) f below at =
    omega (arith, sum_by-cons body_cost g (take n fs), sum_by-cons body_cost g (take number fs), costs-behind fs n number f (omega arith) at)

-- what calls of the first so many functions add
abbrev pub calls : Checked → ℕ → ℕ
calls d functions = sum_by body_cost (take functions d.functions)

pub calls-behind : (d : Checked) (functions number : ℕ) (f : CheckedFunction) → number < functions → slice_get d.functions number ≡ Some f →
    calls d number + (4 * count f.body + length f.parameters + 2) ≤ calls d functions
calls-behind d functions number f below at = costs-behind d.functions functions number f below at
