-- One step more of a loop over bits.
use Rattle.std.proofs.Common.{◌≡◌, ℕ, suc, ◌+◌, ◌<◌, Bool, true, false, List, [], ◌∷◌, ◌++◌, length, get_or, take, refl, sym, ap, ap₂, ◌∙◌, arith}
use Rattle.std.proofs.lemmas.List.{take_more, length-take-le}
use Rattle.aig_blast.specs.BitLists.{choice, zip_with}
use Rattle.aig_blast.specs.Steps.{choose}

pub choose-more : (c : Bool) (xs ys : List Bool) (k : ℕ) → k < length xs → length xs ≡ length ys → choose c (take k xs) (take k ys) ++ choice c (get_or xs k false) (get_or ys k false) ∷ [] ≡ choose c (take (k + 1) xs) (take (k + 1) ys)
choose-more true xs ys k within same = sym (take_more xs k false within)
choose-more false xs ys k within same = sym (take_more ys k false (omega arith))

-- a recursion on how many steps are done, one step on
pub more : {A : Type 0} (F : ℕ → A) (k : ℕ) → F (suc k) ≡ F (k + 1)
more F k = ap F (omega arith)

zip_with-push : (f : Bool → Bool → Bool) (xs ys : List Bool) (x y : Bool) → length xs ≡ length ys → zip_with f (xs ++ x ∷ []) (ys ++ y ∷ []) ≡ zip_with f xs ys ++ f x y ∷ []
zip_with-push f [] [] x y same = refl
zip_with-push f [] (b ∷ ys) x y same = absurd (omega arith)
zip_with-push f (a ∷ xs) [] x y same = absurd (omega arith)
zip_with-push f (a ∷ xs) (b ∷ ys) x y same = ap (λ zs. f a b ∷ zs) (zip_with-push f xs ys x y (omega arith))

-- one more bit of two words
take_two_more : {A : Type 0} (F : List Bool → List Bool → A) (xs ys : List Bool) (k : ℕ) → k < length xs → length xs ≡ length ys → F (take (k + 1) xs) (take (k + 1) ys) ≡ F (take k xs ++ get_or xs k false ∷ []) (take k ys ++ get_or ys k false ∷ [])
take_two_more F xs ys k within same = ap₂ F (take_more xs k false within) (take_more ys k false (omega arith))

same_taken : (xs ys : List Bool) (k : ℕ) → k < length xs → length xs ≡ length ys → length (take k xs) ≡ length (take k ys)
same_taken xs ys k within same = length-take-le k xs (omega arith) ∙ sym (length-take-le k ys (omega arith))

pub zip_with-more : (f : Bool → Bool → Bool) (xs ys : List Bool) (k : ℕ) → k < length xs → length xs ≡ length ys → zip_with f (take k xs) (take k ys) ++ f (get_or xs k false) (get_or ys k false) ∷ [] ≡ zip_with f (take (k + 1) xs) (take (k + 1) ys)
zip_with-more f xs ys k within same =
    sym (take_two_more (zip_with f) xs ys k within same ∙ zip_with-push f (take k xs) (take k ys) (get_or xs k false) (get_or ys k false) (same_taken xs ys k within same))
