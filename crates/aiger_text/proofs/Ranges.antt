-- Variables that lines define one after another, from 1 on.
use Rattle.std.proofs.Common.{◌≡◌, ℕ, zero, suc, ◌+◌, ◌*◌, ◌/◌, ◌%◌, ◌<◌, ◌≤◌, false, ◌||◌, cond, List, [], ◌∷◌, ◌++◌, length, refl, ap, ap₂, ◌∙◌, arith, None, Some}
use Rattle.std.specs.Prelude.{◌≢◌, nat_eq, position}
use Rattle.std.specs.List.{position_from}
use Rattle.std.proofs.lemmas.Bool.{eq-eqb, lt-ltb, ne_eqb}
use Rattle.std.proofs.lemmas.Iterator.Adapters.{position_from-zero}
use Rattle.aiger_text.specs.Places.{is_defined, place_after, place_of}
use Rattle.aiger_text.specs.Reading.{literal_at, placed_literal}

-- that many numbers after one
abbrev pub range : ℕ → ℕ → List ℕ
range k zero = []
range k (suc m) = suc k ∷ range (suc k) m

pub length-range : (k m : ℕ) → length (range k m) ≡ m
length-range k zero = refl
length-range k (suc m) = ap suc (length-range (suc k) m)

pub range-push : (k m : ℕ) → range k m ++ suc (k + m) ∷ [] ≡ range k (suc m)
range-push k zero = let same : k + 0 ≡ k = omega arith in ap (λ n. suc n ∷ []) same
range-push k (suc m) = let same : k + suc m ≡ suc k + m = omega arith in ap (λ n. suc k ∷ range (suc k) m ++ suc n ∷ []) same ∙ ap (λ ns. suc k ∷ ns) (range-push (suc k) m)

pub is_defined-range : (k m v : ℕ) → k + m < v → is_defined (range k m) v ≡ false
is_defined-range k zero v above = refl
is_defined-range k (suc m) v above = ap₂ (λ s t. s || t) (ne_eqb v (suc k) (λ same. absurd (omega (arith, above, same)))) (is_defined-range (suc k) m v (omega (arith, above)))

position-range : (k m j i : ℕ) → j < m → position_from (nat_eq (suc (k + j))) i (range k m) ≡ Some (i + j)
position-range k zero j i within = absurd (omega (arith, within))
position-range k (suc m) zero i within =
    let here : suc (k + 0) ≡ suc k = omega arith in
    let place : i ≡ i + 0 = omega arith in
    ap (λ t. cond t (Some i) (position_from (nat_eq (suc (k + 0))) (i + 1) (range (suc k) m))) (eq-eqb (suc (k + 0)) (suc k) here) ∙ ap Some place
position-range k (suc m) (suc j) i within =
    let other : suc (k + suc j) ≢ suc k = λ same. absurd (omega (arith, same)) in
    let next : k + suc j ≡ suc k + j = omega arith in
    let place : i + 1 + j ≡ i + suc j = omega arith in
    ap (λ t. cond t (Some i) (position_from (nat_eq (suc (k + suc j))) (i + 1) (range (suc k) m))) (ne_eqb (suc (k + suc j)) (suc k) other)
    ∙ ap (λ n. position_from (nat_eq (suc n)) (i + 1) (range (suc k) m)) next ∙ position-range (suc k) m j (i + 1) (omega (arith, within)) ∙ ap Some place

-- each variable has its own number as its place
pub place_of-range : (m v : ℕ) → v ≤ m → place_of (range 0 m) v ≡ Some v
place_of-range m zero within = refl
place_of-range m (suc j) within =
    let next : 0 + j + 1 ≡ suc j = omega arith in
    let same : j ≡ 0 + j = omega arith in
    ap (λ t. cond t (Some 0) (place_after (position (nat_eq (suc j)) (range 0 m)))) (ne_eqb (suc j) 0 (λ none. absurd (omega (arith, none))))
    ∙ ap place_after (position_from-zero (nat_eq (suc j)) (range 0 m) ∙ ap (λ n. position_from (nat_eq (suc n)) 0 (range 0 m)) same ∙ position-range 0 m j 0 (omega (arith, within))) ∙ ap Some next

-- and each literal stays as it is
pub placed_literal-range : (m bound lit : ℕ) → lit / 2 ≤ m → lit / 2 < bound → placed_literal (range 0 m) bound lit ≡ Some lit
placed_literal-range m bound lit within below =
    let whole : 2 * (lit / 2) + lit % 2 ≡ lit = omega arith in
    ap (λ p. literal_at bound p (lit % 2)) (place_of-range m (lit / 2) within) ∙ ap (λ t. cond t (Some (2 * (lit / 2) + lit % 2)) None) (lt-ltb (lit / 2) bound below) ∙ ap Some whole
