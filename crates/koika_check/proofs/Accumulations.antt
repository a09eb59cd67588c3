-- A list that grows by one item for each of another list, each of which rests on those before it.
use Rattle.std.proofs.Common.{◌≡◌, ℕ, zero, suc, ◌+◌, ◌<◌, List, [], ◌∷◌, ◌++◌, length, take, Some, slice_get, refl, ap, ◌∙◌, arith}
use Rattle.std.proofs.lemmas.List.{length-append}

get-left : {X : Type 0} (xs ys : List X) (k : ℕ) → k < length xs → slice_get (xs ++ ys) k ≡ slice_get xs k
get-left [] ys k lt = absurd (omega arith)
get-left (x ∷ xs) ys zero lt = refl
get-left (x ∷ xs) ys (suc k) lt = get-left xs ys k (omega arith)

get-at : {X : Type 0} (xs : List X) (x : X) → slice_get (xs ++ x ∷ []) (length xs) ≡ Some x
get-at [] x = refl
get-at (y ∷ xs) x = get-at xs x

module _ {X Y : Type 0} (next : List Y → X → Y) where
  abbrev pub accumulated : List Y → List X → List Y
  accumulated before [] = before
  accumulated before (x ∷ xs) = accumulated (before ++ next before x ∷ []) xs

  kept : (before : List Y) (xs : List X) (k : ℕ) → k < length before → slice_get (accumulated before xs) k ≡ slice_get before k
  kept before [] k lt = refl
  kept before (x ∷ xs) k lt =
      kept (before ++ next before x ∷ []) xs k (omega (arith, length-append before (next before x ∷ []))) ∙ get-left before (next before x ∷ []) k lt

  from : (before : List Y) (xs : List X) (n i : ℕ) (x : X) → i < n → slice_get xs i ≡ Some x →
      slice_get (accumulated before (take n xs)) (length before + i) ≡ Some (next (accumulated before (take i xs)) x)
  from before [] n i x lt at = absurd (cc)
  from before (y ∷ xs) zero i x lt at = absurd (omega arith)
  from before (y ∷ xs) (suc n) zero x lt at =
      let z : Y = next before y in
      let same : y ≡ x = cc in
      ap (λ k. slice_get (accumulated (before ++ z ∷ []) (take n xs)) k) (let e : length before + 0 ≡ length before = omega arith in e)
      ∙ kept (before ++ z ∷ []) (take n xs) (length before) (omega (arith, length-append before (z ∷ [])))
      ∙ get-at before z ∙ ap (λ u. Some (next before u)) same
  from before (y ∷ xs) (suc n) (suc i) x lt at =
      let z : Y = next before y in
      ap (λ k. slice_get (accumulated (before ++ z ∷ []) (take n xs)) k) (let e : length before + suc i ≡ length (before ++ z ∷ []) + i = omega (arith, length-append before (z ∷ [])) in e)
      ∙ from (before ++ z ∷ []) xs n i x (omega arith) at

  -- an item rests on those before it, however many are after it
  pub accumulated-at : (xs : List X) (n i : ℕ) (x : X) → i < n → slice_get xs i ≡ Some x → slice_get (accumulated [] (take n xs)) i ≡ Some (next (accumulated [] (take i xs)) x)
  accumulated-at xs n i x lt at =
      let start : i ≡ length {A = Y} [] + i = omega arith in
      ap (λ k. slice_get (accumulated [] (take n xs)) k) start ∙ from [] xs n i x lt at
