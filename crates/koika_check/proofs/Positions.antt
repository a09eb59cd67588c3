-- The first index at which a test passes, by cases on the list, and with one more item behind it.
use Rattle.std.proofs.Common.{◌≡◌, ℕ, zero, suc, ◌+◌, ◌<◌, Bool, true, false, cond, not, ltb, List, [], ◌∷◌, ◌++◌, length, get_or, slice_get, Option, Some, None, position, refl, ap, ap₂, sym, ◌∙◌, arith}
use Rattle.std.specs.List.{position_or_len}
use Rattle.std.specs.Option.{option_and_then, option_map}
use Rattle.std.proofs.lemmas.Bool.Decides.{nat_tests}
use Rattle.std.proofs.lemmas.Slice.Eq.{bytes_eq-Decides}
use Rattle.std.proofs.lemmas.List.Quantifiers.{position-Some}
use Rattle.std.specs.Str.{bytes_eq}
use Rattle.kw_base.specs.Names.{number_of}

-- the same by recursion
abbrev pub index : {X : Type 0} → (X → Bool) → List X → Option ℕ
index p [] = None
index p (x ∷ xs) = cond (p x) (Some 0) (option_map suc (index p xs))

at_front : (n : ℕ) → cond {A = Option ℕ} (ltb 0 (suc n)) (Some 0) None ≡ Some 0
at_front n = let e : ltb 0 (suc n) ≡ true = grind (arith, nat_tests) in rw e

one_further : (k n : ℕ) → cond (ltb (1 + k) (suc n)) (Some (1 + k)) None ≡ option_map suc (cond (ltb k n) (Some k) None)
one_further k n =
    let e : ltb (1 + k) (suc n) ≡ ltb k n = grind (arith, nat_tests) in
    let s : 1 + k ≡ suc k = omega arith in
    ap₂ (λ b m. cond b (Some m) None) e s ∙ mapped (ltb k n) k
  where
    mapped : (b : Bool) (k : ℕ) → cond b (Some (suc k)) None ≡ option_map suc (cond b (Some k) None)
    mapped true k = refl
    mapped false k = refl

pub position-index : {X : Type 0} (p : X → Bool) (xs : List X) → position p xs ≡ index p xs
position-index p [] = refl
position-index p (x ∷ xs) =
    elim (p x) as (λ b. cond (ltb (cond (not b) (1 + position_or_len p xs) 0) (suc (length xs))) (Some (cond (not b) (1 + position_or_len p xs) 0)) None ≡ cond b (Some 0) (option_map suc (index p xs))) [
      | true ↦ at_front (length xs)
      | false ↦ one_further (position_or_len p xs) (length xs) ∙ ap (option_map suc) (position-index p xs)
    ]

-- where it passes nowhere, it passes at no index
pub index-none : {X : Type 0} (p : X → Bool) (xs : List X) (i : ℕ) (d : X) → index p xs ≡ None → i < length xs → p (get_or xs i d) ≡ false
index-none p [] i d h lt = absurd (omega (arith, lt))
index-none p (x ∷ xs) zero d h lt = first_fails (p x) (index p xs) h
  where
    first_fails : (b : Bool) (o : Option ℕ) → cond b (Some 0) (option_map suc o) ≡ None → b ≡ false
    first_fails true o h = cc
    first_fails false o h = refl
index-none p (x ∷ xs) (suc i) d h lt = index-none p xs i d (rest_fails (p x) (index p xs) h) (omega (arith, lt))
  where
    rest_fails : (b : Bool) (o : Option ℕ) → cond b (Some 0) (option_map suc o) ≡ None → o ≡ None
    rest_fails true o h = cc
    rest_fails false None h = refl
    rest_fails false (Some k) h = cc

-- what is found, or else the last one
abbrev pub or_last : Option ℕ → Bool → ℕ → Option ℕ
or_last (Some k) b n = Some k
or_last None true n = Some n
or_last None false n = None

pub index-push : {X : Type 0} (p : X → Bool) (xs : List X) (y : X) → index p (xs ++ y ∷ []) ≡ or_last (index p xs) (p y) (length xs)
index-push p [] y = at_last (p y)
  where
    at_last : (b : Bool) → cond b (Some 0) None ≡ or_last None b 0
    at_last true = refl
    at_last false = refl
index-push p (x ∷ xs) y = ap (λ o. cond (p x) (Some 0) (option_map suc o)) (index-push p xs y) ∙ further (p x) (index p xs) (p y) (length xs)
  where
    further : (b : Bool) (o : Option ℕ) (l : Bool) (n : ℕ) → cond b (Some 0) (option_map suc (or_last o l n)) ≡ or_last (cond b (Some 0) (option_map suc o)) l (suc n)
    further true o l n = refl
    further false (Some k) l n = refl
    further false None true n = refl
    further false None false n = refl

-- each name is its own, and no other
pub same : (name : List ℕ) → bytes_eq name name ≡ true
same name = (bytes_eq-Decides name name).1 refl

pub same-is : (a b : List ℕ) → bytes_eq a b ≡ true → a ≡ b
same-is a b e = (bytes_eq-Decides a b).0 e

-- a name that wasn't seen is none of those
pub not_there : (names : List (List ℕ)) (name d : List ℕ) (i : ℕ) → number_of names name ≡ None → i < length names → get_or names i d ≡ name → ⊥
not_there names name d i h lt e =
    let other = index-none (bytes_eq name) names i d (sym (position-index (bytes_eq name) names) ∙ h) lt in
    false_true (sym other ∙ ap (bytes_eq name) e ∙ same name)
  where
    false_true : false ≡ true → ⊥
    false_true e = cc

-- ---- what stands at the number of a name

pub slice_get-push : {X : Type 0} (xs : List X) (x : X) (i : ℕ) → i < length xs → slice_get (xs ++ x ∷ []) i ≡ slice_get xs i
slice_get-push [] x i lt = absurd (omega (arith, lt))
slice_get-push (y ∷ xs) x zero lt = refl
slice_get-push (y ∷ xs) x (suc i) lt = slice_get-push xs x i (omega (arith, lt))

pub slice_get-last : {X : Type 0} (xs : List X) (x : X) (i : ℕ) → i ≡ length xs → slice_get (xs ++ x ∷ []) i ≡ Some x
slice_get-last [] x i e = rw e
slice_get-last (y ∷ xs) x zero e = absurd (omega (arith, e))
slice_get-last (y ∷ xs) x (suc i) e = slice_get-last xs x i (omega (arith, e))

pub number_of-within : (names : List (List ℕ)) (name : List ℕ) (k : ℕ) → number_of names name ≡ Some k → (k < length names) × (get_or names k [] ≡ name)
number_of-within names name k e = let found = position-Some (bytes_eq name) names k [] e in (found.0, sym (same-is name (get_or names k []) found.1))

-- one more name that wasn't there, and what stands there
pub at-push : {X : Type 0} (names : List (List ℕ)) (xs : List X) (name : List ℕ) (x : X) (other : List ℕ) → length xs ≡ length names → number_of names name ≡ None →
    option_and_then (slice_get (xs ++ x ∷ [])) (number_of (names ++ name ∷ []) other) ≡ cond (bytes_eq other name) (Some x) (option_and_then (slice_get xs) (number_of names other))
at-push names xs name x other l none =
    ap (option_and_then (slice_get (xs ++ x ∷ []))) (position-index (bytes_eq other) (names ++ name ∷ []) ∙ index-push (bytes_eq other) names name)
    ∙ by_cases (number_of names other) (index (bytes_eq other) names) (bytes_eq other name) (position-index (bytes_eq other) names) refl refl
  where
    by_cases : (n o : Option ℕ) (b : Bool) → n ≡ o → number_of names other ≡ n → bytes_eq other name ≡ b → option_and_then (slice_get (xs ++ x ∷ [])) (or_last o b (length names)) ≡ cond b (Some x) (option_and_then (slice_get xs) n)
    by_cases (Some m) (Some k) true e f g = absurd (none_some m (sym (ap (number_of names) (same-is other name g) ∙ none) ∙ f))
      where
        none_some : (m : ℕ) → None ≡ Some m → ⊥
        none_some m e = cc
    by_cases (Some m) (Some k) false e f g = slice_get-push xs x k (omega (arith, l, (number_of-within names other k (f ∙ e)).0)) ∙ ap (option_and_then (slice_get xs)) (sym e)
    by_cases None (Some k) b e f g = absurd cc
    by_cases (Some m) None b e f g = absurd cc
    by_cases None None true e f g = slice_get-last xs x (length names) (sym l)
    by_cases None None false e f g = refl
