-- The places of variables that are each defined once, and which literals have a place below a bound.
use Rattle.std.proofs.Common.{◌≡◌, ℕ, zero, suc, ◌+◌, ◌*◌, ◌/◌, ◌%◌, ◌<◌, ◌≤◌, Bool, true, false, ◌||◌, cond, List, [], ◌∷◌, ◌++◌, length, take, Option, None, Some, refl, sym, ap, subst, ◌∙◌, arith, inl, inr}
use Rattle.std.specs.Prelude.{◌≢◌, is_some, nat_eq, nat_lt}
use Rattle.std.specs.List.{position_from}
use Rattle.std.proofs.lemmas.Bool.{cases_lt, eq-eqb, eqb-false, le-ltb, lt-ltb, ne_eqb, or_parts}
use Rattle.std.proofs.lemmas.Iterator.Adapters.{position_from-zero}
use Rattle.aiger_text.specs.Acceptance.{is_usable}
use Rattle.aiger_text.specs.Places.{is_defined, place_after, place_of}
use Rattle.aiger_text.specs.Reading.{literal_at, placed_literal}
use Rattle.aiger_text.specs.inner.Sound.{AreApart}

-- what a search finds is within the list
found-within : (test : ℕ → Bool) (i : ℕ) (xs : List ℕ) (p : ℕ) → position_from test i xs ≡ Some p → (i ≤ p) × (p < i + length xs)
found-within test i [] p is = absurd (cc)
found-within test i (x ∷ xs) p is = by (found-within test (i + 1) xs p) (test x) is
  where
    by : (position_from test (i + 1) xs ≡ Some p → (i + 1 ≤ p) × (p < i + 1 + length xs)) → (t : Bool)
        → cond {A = Option ℕ} t (Some i) (position_from test (i + 1) xs) ≡ Some p → (i ≤ p) × (p < i + suc (length xs))
    by more true is = let same : i ≡ p = cc in (omega (arith, same), omega (arith, same))
    by more false is = let later = more is in (omega (arith, later.0), omega (arith, later.1))

-- ---- variables that are apart

differs : (x v : ℕ) (front rest : List ℕ) → is_defined (front ++ v ∷ rest) x ≡ false → nat_eq v x ≡ false
differs x v [] rest fresh = ne_eqb v x (λ same. eqb-false x v (or_parts (nat_eq x v) (is_defined rest x) fresh).0 (sym same))
differs x v (y ∷ front) rest fresh = differs x v front rest (or_parts (nat_eq x y) (is_defined (front ++ v ∷ rest) x) fresh).1

not-zero : (v : ℕ) (front rest : List ℕ) → AreApart (front ++ v ∷ rest) → v ≢ 0
not-zero v [] rest apart = apart.0
not-zero v (x ∷ front) rest apart = not-zero v front rest apart.1.1

own-place : (v : ℕ) (front rest : List ℕ) (i : ℕ) → AreApart (front ++ v ∷ rest) → position_from (nat_eq v) i (front ++ v ∷ rest) ≡ Some (i + length front)
own-place v [] rest i apart =
    let here : i ≡ i + 0 = omega arith in
    ap (λ t. cond t (Some i) (position_from (nat_eq v) (i + 1) rest)) (eq-eqb v v refl) ∙ ap Some here
own-place v (x ∷ front) rest i apart =
    let next : i + 1 + length front ≡ i + suc (length front) = omega arith in
    ap (λ t. cond t (Some i) (position_from (nat_eq v) (i + 1) (front ++ v ∷ rest))) (differs x v front rest apart.1.0)
    ∙ own-place v front rest (i + 1) apart.1.1 ∙ ap Some next

other-place : (u v : ℕ) (front rest : List ℕ) (i p : ℕ) → nat_eq u v ≡ false → position_from (nat_eq u) i (front ++ v ∷ rest) ≡ Some p → p ≢ i + length front
other-place u v [] rest i p other is same =
    let later = found-within (nat_eq u) (i + 1) rest p (sym (ap (λ t. cond {A = Option ℕ} t (Some i) (position_from (nat_eq u) (i + 1) rest)) other) ∙ is) in
    absurd (omega (arith, later.0, same))
other-place u v (x ∷ front) rest i p other is at = by (other-place u v front rest (i + 1) p other) (nat_eq u x) is at
  where
    by : (position_from (nat_eq u) (i + 1) (front ++ v ∷ rest) ≡ Some p → p ≢ i + 1 + length front) → (t : Bool)
        → cond {A = Option ℕ} t (Some i) (position_from (nat_eq u) (i + 1) (front ++ v ∷ rest)) ≡ Some p → p ≢ i + suc (length front)
    by more true is same = let first : i ≡ p = cc in absurd (omega (arith, first, same))
    by more false is same = more is (omega (arith, same))

-- the place of a variable by where a search finds it
place_of-found : (variables : List ℕ) (u : ℕ) → place_of variables u ≡ cond (nat_eq u 0) (Some 0) (place_after (position_from (nat_eq u) 0 variables))
place_of-found variables u = ap (λ o. cond (nat_eq u 0) (Some 0) (place_after o)) (position_from-zero (nat_eq u) variables)

-- the place of a variable is one more than how many are defined before it
pub place-own : (variables front rest : List ℕ) (v : ℕ) → variables ≡ front ++ v ∷ rest → AreApart variables → place_of variables v ≡ Some (suc (length front))
place-own variables front rest v cut apart =
    let apart' : AreApart (front ++ v ∷ rest) = subst AreApart cut apart in
    let next : 0 + length front + 1 ≡ suc (length front) = omega arith in
    ap (λ vs. place_of vs v) cut ∙ place_of-found (front ++ v ∷ rest) v
    ∙ ap (λ t. cond t (Some 0) (place_after (position_from (nat_eq v) 0 (front ++ v ∷ rest)))) (ne_eqb v 0 (not-zero v front rest apart'))
    ∙ ap place_after (own-place v front rest 0 apart') ∙ ap Some next

-- no other variable has that place
pub place-other : (variables front rest : List ℕ) (u v p : ℕ) → variables ≡ front ++ v ∷ rest → nat_eq u v ≡ false → place_of variables u ≡ Some p → p ≢ suc (length front)
place-other variables front rest u v p cut other is same =
    by (nat_eq u 0) (position_from (nat_eq u) 0 (front ++ v ∷ rest)) refl (sym (ap (λ vs. place_of vs u) cut ∙ place_of-found (front ++ v ∷ rest) u) ∙ is)
  where
    by : (t : Bool) (o : Option ℕ) → position_from (nat_eq u) 0 (front ++ v ∷ rest) ≡ o → cond {A = Option ℕ} t (Some 0) (place_after o) ≡ Some p → ⊥
    by true o at is = let first : 0 ≡ p = cc in absurd (omega (arith, first, same))
    by false None at is = absurd (cc)
    by false (Some q) at is = let next : q + 1 ≡ p = cc in other-place u v front rest 0 q other at (omega (arith, next, same))

-- a place is not above how many variables are defined
pub place-within : (variables : List ℕ) (u p : ℕ) → place_of variables u ≡ Some p → p ≤ length variables
place-within variables u p is = by (nat_eq u 0) (position_from (nat_eq u) 0 variables) refl (sym (place_of-found variables u) ∙ is)
  where
    by : (t : Bool) (o : Option ℕ) → position_from (nat_eq u) 0 variables ≡ o → cond {A = Option ℕ} t (Some 0) (place_after o) ≡ Some p → p ≤ length variables
    by true o at is = let first : 0 ≡ p = cc in omega (arith, first)
    by false None at is = absurd (cc)
    by false (Some q) at is = let next : q + 1 ≡ p = cc in omega (arith, next, (found-within (nat_eq u) 0 variables q at).1)

-- ---- literals that may be used

-- a place is there, and below a bound
abbrev is_below : ℕ → Option ℕ → Bool
is_below bound None = false
is_below bound (Some place) = nat_lt place bound

same-test : (a b c e : ℕ) → (a < b → c < e) → (b ≤ a → e ≤ c) → nat_lt a b ≡ nat_lt c e
same-test a b c e below above =
    elim (cases_lt a b) [
      | inl less ↦ lt-ltb a b less ∙ sym (lt-ltb c e (below less))
      | inr more ↦ le-ltb a b more ∙ sym (le-ltb c e (above more))
    ]

-- a variable is one of the first ones where it is found among them
defined-take : (u i n : ℕ) (variables : List ℕ) → is_defined (take n variables) u ≡ is_below (i + n) (position_from (nat_eq u) i variables)
defined-take u i zero variables = by (position_from (nat_eq u) i variables) refl
  where
    by : (o : Option ℕ) → position_from (nat_eq u) i variables ≡ o → false ≡ is_below (i + 0) o
    by None at = refl
    by (Some p) at = sym (le-ltb p (i + 0) (omega (arith, (found-within (nat_eq u) i variables p at).0)))
defined-take u i (suc n) [] = refl
defined-take u i (suc n) (x ∷ variables) = by (defined-take u (i + 1) n variables) (nat_eq u x)
  where
    by : is_defined (take n variables) u ≡ is_below (i + 1 + n) (position_from (nat_eq u) (i + 1) variables) → (t : Bool)
        → (t || is_defined (take n variables) u) ≡ is_below (i + suc n) (cond t (Some i) (position_from (nat_eq u) (i + 1) variables))
    by more true = sym (lt-ltb i (i + suc n) (omega arith))
    by more false = let same : i + 1 + n ≡ i + suc n = omega arith in more ∙ ap (λ b. is_below b (position_from (nat_eq u) (i + 1) variables)) same

after-below : (n : ℕ) (o : Option ℕ) → is_below (1 + n) (place_after o) ≡ is_below (0 + n) o
after-below n None = refl
after-below n (Some p) = same-test (p + 1) (1 + n) p (0 + n) (λ less. omega (arith, less)) (λ more. omega (arith, more))

place-below : (variables : List ℕ) (n u : ℕ) → is_below (1 + n) (place_of variables u) ≡ (nat_eq u 0 || is_defined (take n variables) u)
place-below variables n u = ap (is_below (1 + n)) (place_of-found variables u) ∙ by (nat_eq u 0)
  where
    by : (t : Bool) → is_below (1 + n) (cond t (Some 0) (place_after (position_from (nat_eq u) 0 variables))) ≡ (t || is_defined (take n variables) u)
    by true = lt-ltb 0 (1 + n) (omega arith)
    by false = after-below n (position_from (nat_eq u) 0 variables) ∙ sym (defined-take u 0 n variables)

literal_at-some : (bound sign : ℕ) (o : Option ℕ) → is_some (literal_at bound o sign) ≡ is_below bound o
literal_at-some bound sign None = refl
literal_at-some bound sign (Some place) = by (nat_lt place bound)
  where
    by : (t : Bool) → is_some (cond {A = Option ℕ} t (Some (2 * place + sign)) None) ≡ t
    by true = refl
    by false = refl

constant : (lit : ℕ) → nat_eq (lit / 2) 0 ≡ nat_lt lit 2
constant lit =
    elim (cases_lt lit 2) [
      | inl less ↦ eq-eqb (lit / 2) 0 (omega (arith, less)) ∙ sym (lt-ltb lit 2 less)
      | inr more ↦ ne_eqb (lit / 2) 0 (λ none. absurd (omega (arith, more, none))) ∙ sym (le-ltb lit 2 more)
    ]

-- a literal has a place below one more than a count where it may be used with that many variables
pub placed-usable : (variables : List ℕ) (n lit : ℕ) → is_some (placed_literal variables (1 + n) lit) ≡ is_usable (take n variables) lit
placed-usable variables n lit =
    literal_at-some (1 + n) (lit % 2) (place_of variables (lit / 2)) ∙ place-below variables n (lit / 2)
    ∙ ap (λ t. t || is_defined (take n variables) (lit / 2)) (constant lit)
