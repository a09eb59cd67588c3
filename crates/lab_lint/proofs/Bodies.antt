-- The parts that the bodies of functions are.
use Rattle.std.proofs.Common.{◌≡◌, ◌⊎◌, inl, inr, ℕ, zero, suc, ◌+◌, ◌≤◌, ◌<◌, List, [], ◌∷◌, ◌++◌, length, take, Option, Some, None, arith, refl, ap, sym, ◌∙◌}
use Rattle.std.specs.Prelude.{slice_get}
use Rattle.std.proofs.lemmas.Bool.{cases_lt}
use Rattle.std.proofs.lemmas.List.{take_all}
use Rattle.koika_check.specs.declared.checked.Checked.{Checked}
use Rattle.koika_check.specs.declared.checked.CheckedFunction.{CheckedFunction}
use Rattle.koika_check.specs.declared.checked.CheckedRule.{CheckedRule}
use Rattle.koika_check.specs.declared.typed.Operation.TheVariants as operation
use Rattle.koika_lower.proofs.Calls.{get-front}
use Rattle.lab_lint.specs.Occurrences.{Part, bodies_before, bodies_behind, body_if, nothing, own, part_if, part_of, rule_part}

get-end : (xs : List Part) (x : Part) → slice_get (xs ++ x ∷ []) (length xs) ≡ Some x
get-end [] x = refl
get-end (y ∷ xs) x = get-end xs x

length-end : (xs : List Part) (x : Part) → length (xs ++ x ∷ []) ≡ length xs + 1
length-end [] x = refl
length-end (y ∷ xs) x = omega (arith, length-end xs x)

-- more of them leave those that are there
bodies-keep : (before : List Part) (fs : List CheckedFunction) (i : ℕ) → i < length before → slice_get (bodies_behind before fs) i ≡ slice_get before i
bodies-keep before [] i h = refl
bodies-keep before (f ∷ fs) i h =
    bodies-keep (before ++ part_of before f.body ∷ []) fs i (omega (arith, length-end before (part_of before f.body))) ∙ get-front before (part_of before f.body ∷ []) i h

bodies-get : (before : List Part) (fs : List CheckedFunction) (n number : ℕ) (f : CheckedFunction) → number < n → slice_get fs number ≡ Some f →
    slice_get (bodies_behind before (take n fs)) (length before + number) ≡ Some (part_of (bodies_behind before (take number fs)) f.body)
bodies-get before [] n number f h e = absurd cc
bodies-get before (g ∷ fs) zero number f h e = absurd (omega arith)
bodies-get before (g ∷ fs) (suc n) zero f h e =
    let same : g ≡ f = cc in
    ap (λ i. slice_get (bodies_behind (before ++ part_of before g.body ∷ []) (take n fs)) i) (omega arith) ∙
    bodies-keep (before ++ part_of before g.body ∷ []) (take n fs) (length before) (omega (arith, length-end before (part_of before g.body))) ∙
    get-end before (part_of before g.body) ∙
    ap (λ (x : CheckedFunction). Some (part_of before x.body)) same
bodies-get before (g ∷ fs) (suc n) (suc number) f h e =
    ap (λ i. slice_get (bodies_behind (before ++ part_of before g.body ∷ []) (take n fs)) i) (omega (arith, length-end before (part_of before g.body))) ∙
    bodies-get (before ++ part_of before g.body ∷ []) fs n number f (omega arith) e

bodies-length : (before : List Part) (fs : List CheckedFunction) → length (bodies_behind before fs) ≡ length before + length fs
bodies-length before [] = omega arith
bodies-length before (f ∷ fs) = bodies-length (before ++ part_of before f.body ∷ []) fs ∙ omega (arith, length-end before (part_of before f.body))

beyond : {X : Type 0} (xs : List X) (k : ℕ) → length xs ≤ k → slice_get xs k ≡ None
beyond [] k h = refl
beyond (x ∷ xs) zero h = absurd (omega arith)
beyond (x ∷ xs) (suc k) h = beyond xs k (omega arith)

few : (fs : List CheckedFunction) (n : ℕ) → (length (take n fs) ≤ n) × (length (take n fs) ≤ length fs)
few [] zero = (omega arith, omega arith)
few [] (suc n) = (omega arith, omega arith)
few (f ∷ fs) zero = (omega arith, omega arith)
few (f ∷ fs) (suc n) = let rest = few fs n in (omega (arith, rest.0), omega (arith, rest.1))

missing : (fs : List CheckedFunction) (k : ℕ) → slice_get fs k ≡ None → length fs ≤ k
missing [] k e = omega arith
missing (f ∷ fs) zero e = absurd cc
missing (f ∷ fs) (suc k) e = omega (arith, missing fs k e)

-- a call is the body of the function, which calls those before it
pub own-Call : (d : Checked) (functions number : ℕ) (f : CheckedFunction) → number < functions → slice_get d.functions number ≡ Some f →
    own (bodies_before d functions) (operation.Call number) ≡ part_of (bodies_before d number) f.body
own-Call d functions number f below at =
    ap part_if (ap (λ i. slice_get (bodies_behind [] (take functions d.functions)) i) (omega arith) ∙ bodies-get [] d.functions functions number f below at)

-- and nothing where there is none, or it may not be called
pub own-none : (d : Checked) (functions number : ℕ) → (slice_get d.functions number ≡ None) ⊎ (functions ≤ number) → own (bodies_before d functions) (operation.Call number) ≡ nothing
own-none d functions number side =
    let sizes = few d.functions functions in
    let short : length (bodies_behind [] (take functions d.functions)) ≤ number = elim side [
      | inl none ↦ omega (arith, bodies-length [] (take functions d.functions), sizes.1, missing d.functions number none)
      | inr more ↦ omega (arith, bodies-length [] (take functions d.functions), sizes.0, more)
    ] in
    ap part_if (beyond (bodies_behind [] (take functions d.functions)) number short)

pub bodies-all : (d : Checked) → bodies_before d (length d.functions) ≡ bodies_behind [] d.functions
bodies-all d = ap (bodies_behind []) (take_all (length d.functions) d.functions (omega arith))

-- ---- rules

pub rule-some : (d : Checked) (rule : ℕ) (r : CheckedRule) → slice_get d.rules rule ≡ Some r → rule_part d rule ≡ part_of (bodies_before d (length d.functions)) r.body
unfolding rule_part
rule-some d rule r at = ap (body_if d) at

pub rule-none : (d : Checked) (rule : ℕ) → slice_get d.rules rule ≡ None → rule_part d rule ≡ nothing
unfolding rule_part
rule-none d rule at = ap (body_if d) at
