-- A test of the elements of a list against a value, and the value among them.
use Rattle.std.proofs.Common.{◌≡◌, ℕ, zero, suc, ◌<◌, Bool, true, List, [], ◌∷◌, length, get_or, refl, ap, ◌∙◌, arith, inl, inr}
use Rattle.std.specs.Bool.{Decides}
use Rattle.std.specs.Prelude.{Contains, bytes_eq}
use Rattle.std.specs.List.{list_any}
use Rattle.std.proofs.lemmas.Bool.{or_cases, or_left, or_right}
use Rattle.std.proofs.lemmas.Slice.Eq.{bytes_eq-Decides}

Contains-from_any : {X : Type 0} (test : X → Bool) (x : X) → ((y : X) → test y ≡ true → y ≡ x) → (ys : List X) → list_any test ys ≡ true → Contains ys x
Contains-from_any test x same [] h = absurd cc
Contains-from_any test x same (y ∷ ys) h =
    elim (or_cases (test y) (list_any test ys) h) [
      | inl here ↦ (0, omega arith, same y here)
      | inr later ↦ let found = Contains-from_any test x same ys later in (suc found.0, omega (arith, found.1), found.2)
    ]

any_from-Contains : {X : Type 0} (test : X → Bool) (x : X) → test x ≡ true → (ys : List X) (k : ℕ) → k < length ys → get_or ys k x ≡ x → list_any test ys ≡ true
any_from-Contains test x passes [] k lt e = absurd (omega arith)
any_from-Contains test x passes (y ∷ ys) zero lt e = or_left (test y) (list_any test ys) (ap test e ∙ passes)
any_from-Contains test x passes (y ∷ ys) (suc k) lt e = or_right (test y) (list_any test ys) (any_from-Contains test x passes ys k (omega arith) e)

-- whether bytes are among others, by the test of each
pub listed-Decides : (words : List (List ℕ)) (word : List ℕ) → Decides (list_any (λ w. bytes_eq w word) words) (Contains words word)
listed-Decides words word =
    let test = λ (w : List ℕ). bytes_eq w word in (
      λ yes. Contains-from_any test word (λ w same. (bytes_eq-Decides w word).0 same) words yes,
      λ among. any_from-Contains test word ((bytes_eq-Decides word word).1 refl) words among.0 among.1 among.2,
    )
