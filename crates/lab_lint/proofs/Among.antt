-- Items that are among those of a list.
use Rattle.std.proofs.Common.{◌≡◌, ◌⊎◌, inl, inr, Bool, true, false, cond, List, [], ◌∷◌, ◌++◌, map, refl, sym, ap, ◌∙◌, subst}
use Rattle.std.specs.Prelude.{◌||◌}
use Rattle.std.specs.List.{AllByRecursion, filter, flat_map, list_any}

abbrev pub Among : {X : Type 0} → X → List X → Type 0
Among x [] = ⊥
Among x (y ∷ ys) = (x ≡ y) ⊎ Among x ys

pub among-left : {X : Type 0} (x : X) (xs ys : List X) → Among x xs → Among x (xs ++ ys)
among-left x [] ys h = absurd h
among-left x (y ∷ xs) ys (inl e) = inl e
among-left x (y ∷ xs) ys (inr h) = inr (among-left x xs ys h)

pub among-right : {X : Type 0} (x : X) (xs ys : List X) → Among x ys → Among x (xs ++ ys)
among-right x [] ys h = h
among-right x (y ∷ xs) ys h = inr (among-right x xs ys h)

pub among-split : {X : Type 0} (x : X) (xs ys : List X) → Among x (xs ++ ys) → Among x xs ⊎ Among x ys
among-split x [] ys h = inr h
among-split x (y ∷ xs) ys (inl e) = inl (inl e)
among-split x (y ∷ xs) ys (inr h) = elim (among-split x xs ys h) [ inl a ↦ inl (inr a) | inr b ↦ inr b ]

pub among-map : {X Y : Type 0} (f : X → Y) (x : X) (xs : List X) → Among x xs → Among (f x) (map f xs)
among-map f x [] h = absurd h
among-map f x (y ∷ xs) (inl e) = inl (ap f e)
among-map f x (y ∷ xs) (inr h) = inr (among-map f x xs h)

pub among-flat_map : {X Y : Type 0} (f : X → List Y) (x : X) (y : Y) (xs : List X) → Among x xs → Among y (f x) → Among y (flat_map f xs)
among-flat_map f x y [] h k = absurd h
among-flat_map f x y (z ∷ xs) (inl e) k = among-left y (f z) (flat_map f xs) (subst (λ w. Among y (f w)) e k)
among-flat_map f x y (z ∷ xs) (inr h) k = among-right y (f z) (flat_map f xs) (among-flat_map f x y xs h k)

-- what passes a test among others
pub among-any : {X : Type 0} (p : X → Bool) (x : X) (xs : List X) → Among x xs → p x ≡ true → list_any p xs ≡ true
among-any p x [] h t = absurd h
among-any p x (y ∷ xs) (inl e) t = ap (λ b. b || list_any p xs) (ap p (sym e) ∙ t)
among-any p x (y ∷ xs) (inr h) t = chosen (p y) (among-any p x xs h t)
  where
    chosen : (b : Bool) → list_any p xs ≡ true → (b || list_any p xs) ≡ true
    chosen true h = refl
    chosen false h = h

pub among-filter : {X : Type 0} (p : X → Bool) (x : X) (xs : List X) → Among x xs → p x ≡ true → Among x (filter p xs)
among-filter p x [] h t = absurd h
among-filter p x (y ∷ xs) h t = chosen (p y) refl h (λ k. among-filter p x xs k t)
  where
    chosen : (b : Bool) → p y ≡ b → Among x (y ∷ xs) → (Among x xs → Among x (filter p xs)) → Among x (cond b (y ∷ filter p xs) (filter p xs))
    chosen true is (inl e) rest = inl e
    chosen true is (inr k) rest = inr (rest k)
    chosen false is (inl e) rest = let k : true ≡ false = sym t ∙ ap p e ∙ is in absurd cc
    chosen false is (inr k) rest = rest k

pub among-all : {X : Type 0} (P : X → Type 0) (x : X) (xs : List X) → AllByRecursion P xs → Among x xs → P x
among-all P x [] all h = absurd h
among-all P x (y ∷ xs) all (inl e) = subst P (sym e) all.0
among-all P x (y ∷ xs) all (inr h) = among-all P x xs all.1 h

pub all-append : {X : Type 0} (P : X → Type 0) (xs ys : List X) → AllByRecursion P xs → AllByRecursion P ys → AllByRecursion P (xs ++ ys)
all-append P [] ys a b = b
all-append P (x ∷ xs) ys a b = (a.0, all-append P xs ys a.1 b)

pub all-weaker : {X : Type 0} (P Q : X → Type 0) (xs : List X) → ((x : X) → P x → Q x) → AllByRecursion P xs → AllByRecursion Q xs
all-weaker P Q [] weaker a = tt
all-weaker P Q (x ∷ xs) weaker a = (weaker x a.0, all-weaker P Q xs weaker a.1)
