-- Texts that are laid one after another.
use Rattle.std.proofs.Common.{◌≡◌, ℕ, zero, suc, ◌+◌, ◌<◌, ◌≤◌, List, [], ◌∷◌, ◌++◌, length, map, take, get_or, refl, sym, ap, ap₂, ◌∙◌, arith, append_assoc, append-nil}
use Rattle.std.specs.Prelude.{sum}
use Rattle.std.proofs.lemmas.List.{take_more}
use Rattle.std.proofs.lemmas.List.Sums.{sum-map, sum_by-cons, sum_by_more, sum_by_more_le}
use Rattle.aiger_text.specs.Printing.{laid, one_of}

module _ {X : Type 0} (width : X → ℕ) (f : ℕ → X → List ℕ) where
  laid-push : (number : ℕ) (xs : List X) (x : X) → laid width f number (xs ++ x ∷ []) ≡ laid width f number xs ++ f (number + sum (map width xs)) x
  laid-push number [] x = append-nil (f number x) ∙ ap (λ n. f n x) (omega arith)
  laid-push number (y ∷ xs) x =
      let total : number + width y + sum (map width xs) ≡ number + sum (map width (y ∷ xs)) = omega (arith, sum_by-cons (λ (n : ℕ). n) (width y) (map width xs)) in
      ap (λ t. f number y ++ t) (laid-push (number + width y) xs x ∙ ap (λ n. laid width f (number + width y) xs ++ f n x) total)
      ∙ sym (append_assoc (f number y) (laid width f (number + width y) xs) (f (number + sum (map width (y ∷ xs))) x))

  -- one more item
  pub laid-step : (number : ℕ) (xs : List X) (k : ℕ) (d : X) (before now last : List ℕ) (place : ℕ) → k < length xs → place ≡ number + sum (map width (take k xs))
      → now ≡ before ++ laid width f number (take k xs) → last ≡ now ++ f place (get_or xs k d) → last ≡ before ++ laid width f number (take (k + 1) xs)
  laid-step number xs k d before now last place within at so_far made =
      let place' : ℕ = number + sum (map width (take k xs)) in
      made ∙ ap₂ (λ (t : List ℕ) (n : ℕ). t ++ f n (get_or xs k d)) so_far at ∙ append_assoc before (laid width f number (take k xs)) (f place' (get_or xs k d))
      ∙ ap (λ (t : List ℕ). before ++ t) (sym (ap (laid width f number) (take_more xs k d within) ∙ laid-push number (take k xs) (get_or xs k d)))

-- the widths of one more item, which are not more than all
module _ {X : Type 0} (width : X → ℕ) where
  pub place-step : (number place : ℕ) (xs : List X) (k : ℕ) (x : X) → k < length xs → x ≡ get_or xs k x → place ≡ number + sum (map width (take k xs)) → place + width x ≡ number + sum (map width (take (k + 1) xs))
  place-step number place xs k x within is at =
      omega (arith, at, ap width is, sum-map width (take k xs), sum-map width (take (k + 1) xs), sum_by_more width xs k x within)

  pub place-fits : (number place most : ℕ) (xs : List X) (k : ℕ) (x : X) → k < length xs → x ≡ get_or xs k x → place ≡ number + sum (map width (take k xs)) → sum (map width xs) ≤ most → place + width x ≤ number + most
  place-fits number place most xs k x within is at few =
      omega (arith, at, ap width is, sum-map width (take k xs), sum-map width xs, sum_by_more_le width xs k x within)

-- items that count for one each
pub place-ones : {X : Type 0} (xs : List X) (k : ℕ) → k ≤ length xs → sum (map (one_of {X = X}) (take k xs)) ≡ k
place-ones xs zero within = refl
place-ones [] (suc k) within = absurd (omega arith)
place-ones {X} (x ∷ xs) (suc k) within = omega (arith, sum_by-cons (λ (n : ℕ). n) 1 (map (one_of {X = X}) (take k xs)), place-ones xs k (omega arith))
