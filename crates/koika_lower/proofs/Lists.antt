-- Lists that loops make of others, one item for each: mapped ones, and ones that are so item by item.
use Rattle.std.proofs.Common.{◌≡◌, ℕ, zero, suc, ◌+◌, ◌<◌, List, [], ◌∷◌, ◌++◌, length, map, take, get_or, Some, slice_get, arith, refl, ap, ap₂, sym, subst, ◌∙◌}
use Rattle.std.proofs.lemmas.List.{map-append, take_more}
use Rattle.koika_check.specs.Typing.{Pairwise}

-- one more item of a mapped list
pub mapped-more : {X Y : Type 0} (f : X → Y) (xs : List X) (i : ℕ) (x : X) (ys new : List Y) (y : Y) → i < length xs → x ≡ get_or xs i x → ys ≡ map f (take i xs) →
    new ≡ ys ++ y ∷ [] → y ≡ f x → new ≡ map f (take (i + 1) xs)
mapped-more f xs i x ys new y within is so more of =
    more ∙ ap₂ (λ (l : _) (z : _). l ++ z ∷ []) so (of ∙ ap f is) ∙ sym (map-append f (take i xs) (get_or xs i x ∷ [])) ∙ ap (map f) (sym (take_more xs i x within))

module _ {X Y : Type 0} (R : X → Y → Type 0) where
  pairs-push : (xs : List X) (ys : List Y) (x : X) (y : Y) → Pairwise R xs ys → R x y → Pairwise R (xs ++ x ∷ []) (ys ++ y ∷ [])
  pairs-push [] [] x y h r = (r, tt)
  pairs-push [] (b ∷ ys) x y h r = absurd h
  pairs-push (a ∷ xs) [] x y h r = absurd h
  pairs-push (a ∷ xs) (b ∷ ys) x y h r = (h.0, pairs-push xs ys x y h.1 r)

  -- one more pair
  pub pairs-more : (xs : List X) (i : ℕ) (x : X) (ys new : List Y) (y : Y) → i < length xs → x ≡ get_or xs i x → Pairwise R (take i xs) ys → new ≡ ys ++ y ∷ [] → R x y → Pairwise R (take (i + 1) xs) new
  pairs-more xs i x ys new y within is so more r =
      subst (λ l. Pairwise R l new) (sym (take_more xs i x within))
      (subst (λ l. Pairwise R (take i xs ++ get_or xs i x ∷ []) l) (sym more) (pairs-push (take i xs) ys (get_or xs i x) y so (subst (λ z. R z y) is r)))

  -- as many of both
  pub pairs-length : (xs : List X) (ys : List Y) → Pairwise R xs ys → length ys ≡ length xs
  pairs-length [] [] h = refl
  pairs-length [] (y ∷ ys) h = absurd h
  pairs-length (x ∷ xs) [] h = absurd h
  pairs-length (x ∷ xs) (y ∷ ys) h = ap suc (pairs-length xs ys h.1)

  -- the pair at an index
  pub pairs-at : (xs : List X) (ys : List Y) (i : ℕ) (x : X) (y : Y) → Pairwise R xs ys → slice_get xs i ≡ Some x → slice_get ys i ≡ Some y → R x y
  pairs-at [] ys i x y h e e' = absurd (cc)
  pairs-at (a ∷ xs) [] i x y h e e' = absurd (cc)
  pairs-at (a ∷ xs) (b ∷ ys) zero x y h e e' = let p : a ≡ x = cc in let q : b ≡ y = cc in subst (λ z. R z y) p (subst (R a) q h.0)
  pairs-at (a ∷ xs) (b ∷ ys) (suc i) x y h e e' = pairs-at xs ys i x y h.1 e e'

  -- what holds of each second one
  pub pairs-second : (P : Y → Type 0) → ((x : X) (y : Y) → R x y → P y) → (xs : List X) (ys : List Y) → Pairwise R xs ys → (i : ℕ) (z : Y) → i < length ys → P (get_or ys i z)
  pairs-second P next [] [] h i z within = absurd (omega arith)
  pairs-second P next [] (y ∷ ys) h i z within = absurd h
  pairs-second P next (x ∷ xs) [] h i z within = absurd h
  pairs-second P next (x ∷ xs) (y ∷ ys) h zero z within = next x y h.0
  pairs-second P next (x ∷ xs) (y ∷ ys) h (suc i) z within = pairs-second P next xs ys h.1 i z (omega arith)

  -- lists that agree
  pub pairs-map : {Z : Type 0} (f : X → Z) (g : Y → Z) → ((x : X) (y : Y) → R x y → g y ≡ f x) → (xs : List X) (ys : List Y) → Pairwise R xs ys → map g ys ≡ map f xs
  pairs-map f g same [] [] h = refl
  pairs-map f g same [] (y ∷ ys) h = absurd h
  pairs-map f g same (x ∷ xs) [] h = absurd h
  pairs-map f g same (x ∷ xs) (y ∷ ys) h = ap₂ (λ (z : _) (l : _). z ∷ l) (same x y h.0) (pairs-map f g same xs ys h.1)
