-- The first place in a list that passes a test, as items come one by one.
use Rattle.std.proofs.Common.{◌≡◌, ℕ, zero, suc, ◌+◌, ◌<◌, ◌≤◌, Bool, true, false, cond, eqb, List, [], ◌∷◌, ◌++◌, length, length-append, Option, Some, None, refl, ap, ap₂, ◌∙◌, arith}
use Rattle.std.specs.Prelude.{nat_lt, position, slice_index}
use Rattle.std.specs.List.{position_or_len}
use Rattle.std.proofs.lemmas.Bool.{eqb-true, eqb-false, ltb-true, ltb-false, lt-ltb, le-ltb}
use Rattle.std.proofs.lemmas.List.Folds.{position_or_len_push}
use Rattle.std.proofs.lemmas.List.Sums.{prefix_len-le-length}

-- the place that was found, or else that of one more
unfoldable pub or_at : Option ℕ → Bool → ℕ → Option ℕ
or_at (Some k) b n = Some k
or_at None true n = Some n
or_at None false n = None

push_at : (here n : ℕ) (b same : Bool) (less : Bool) → here ≤ n → eqb here n ≡ same → nat_lt here n ≡ less
    → cond (nat_lt (cond same (n + cond b 0 1) here) (n + 1)) (Some (cond same (n + cond b 0 1) here)) None ≡ or_at (cond less (Some here) None) b n
unfolding or_at
push_at here n b same true most is below =
    let lt : here < n = ltb-true here n below in
    let apart : same ≡ false = differs here n same is lt in
    rw (apart, lt-ltb here (n + 1) (omega (arith, lt))) refl
  where
    differs : (here n : ℕ) (same : Bool) → eqb here n ≡ same → here < n → same ≡ false
    differs here n true is lt = absurd (omega (arith, eqb-true here n is, lt))
    differs here n false is lt = refl
push_at here n true true false most is below =
    let e : n + 0 ≡ n = omega arith in
    rw (lt-ltb (n + 0) (n + 1) (omega arith)) (ap Some e)
push_at here n false true false most is below = rw (le-ltb (n + 1) (n + 1) (omega arith)) refl
push_at here n b false false most is below = absurd (eqb-false here n is (omega (arith, ltb-false here n below, most)))

-- the first place in a list with one more
pub position_push : {X : Type 0} (p : X → Bool) (xs : List X) (y : X) → position p (xs ++ y ∷ []) ≡ or_at (position p xs) (p y) (length xs)
position_push p xs y =
    let here = position_or_len p xs in
    let n = length xs in
    let count : length (xs ++ y ∷ []) ≡ n + 1 = length-append xs (y ∷ []) in
    ap₂ (λ (k m : ℕ). cond (nat_lt k m) (Some k) None) (position_or_len_push p xs y) count
    ∙ push_at here n (p y) (eqb here n) (nat_lt here n) (prefix_len-le-length _ xs) refl refl

-- what was found stays
pub at_found : (o : Option ℕ) (k n : ℕ) (b : Bool) → o ≡ Some k → or_at o b n ≡ o
unfolding or_at
at_found (Some j) k n b is = refl
at_found None k n b is = absurd cc

pub at_other : (o : Option ℕ) (n : ℕ) → or_at o false n ≡ o
unfolding or_at
at_other (Some j) n = refl
at_other None n = refl

pub last_of : (firsts : List ℕ) (n : ℕ) → slice_index (firsts ++ n ∷ []) (length firsts) ≡ n
last_of [] n = refl
last_of (x ∷ firsts) n = last_of firsts n

pub before_last : (firsts : List ℕ) (n k : ℕ) → k < length firsts → slice_index (firsts ++ n ∷ []) k ≡ slice_index firsts k
before_last [] n k h = absurd (omega (arith, h))
before_last (x ∷ firsts) n zero h = refl
before_last (x ∷ firsts) n (suc k) h = before_last firsts n k (omega (arith, h))
