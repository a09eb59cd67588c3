-- Words that are read again, by the bytes of which they consist, and bytes cut where a test first fails.
use Rattle.std.proofs.Common.{◌≡◌, ℕ, suc, zero, ◌≤◌, Bool, true, false, not, cond, List, [], ◌∷◌, ◌++◌, length, refl, sym, ap, ◌∙◌, append-nil, arith}
use Rattle.std.specs.List.{All, AllPass, filter, slice_split}
use Rattle.std.proofs.lemmas.Bool.{not-false, not-true}
use Rattle.std.proofs.lemmas.List.Splits.{slice_split-cons_yes, slice_split_none, slice_split_at}
use Rattle.kw_base.specs.Texts.{StopsAt, front_of, has_bytes, rest_of, words_of}

-- bytes that pass the test of not being cut aren't cut
pub none-from_passes : (p : ℕ → Bool) (bytes : List ℕ) → AllPass (λ b. not (p b)) bytes → All (λ b. p b ≡ false) bytes
none-from_passes p bytes all = λ k d within. not-true (p _) (all k d within)

-- ---- words

pub words_of-nil : (p : ℕ → Bool) → words_of p [] ≡ []
unfolding words_of
words_of-nil p = refl

-- a byte at which the bytes are cut is no part of a word
pub words_of-blank : (p : ℕ → Bool) (b : ℕ) (bytes : List ℕ) → p b ≡ true → words_of p (b ∷ bytes) ≡ words_of p bytes
unfolding words_of
words_of-blank p b bytes blank = ap (filter has_bytes) (slice_split-cons_yes p b bytes blank)

-- a row without them, where it can't be longer, is the first word
pub words_of-word : (p : ℕ → Bool) (b : ℕ) (word rest : List ℕ) → AllPass (λ x. not (p x)) (b ∷ word) → StopsAt (λ x. not (p x)) rest → words_of p ((b ∷ word) ++ rest) ≡ (b ∷ word) ∷ words_of p rest
unfolding words_of
words_of-word p b word [] all stops =
    ap (λ bytes. filter has_bytes (slice_split p bytes)) (append-nil (b ∷ word)) ∙ ap (filter has_bytes) (slice_split_none p (b ∷ word) (none-from_passes p (b ∷ word) all))
words_of-word p b word (y ∷ rest) all stops =
    let blank = not-false (p y) stops in
    ap (filter has_bytes) (slice_split_at p (b ∷ word) y rest (none-from_passes p (b ∷ word) all) blank) ∙ ap (λ words. (b ∷ word) ∷ words) (sym (words_of-blank p y rest blank))

-- ---- bytes are their front and the rest, the front passes, and the rest doesn't go on with it

pub front-rest : (p : ℕ → Bool) (bytes : List ℕ) → bytes ≡ front_of p bytes ++ rest_of p bytes
front-rest p [] = refl
front-rest p (b ∷ bytes) = by (front-rest p bytes) (p b)
  where
    by : bytes ≡ front_of p bytes ++ rest_of p bytes → (t : Bool) → b ∷ bytes ≡ cond t (b ∷ front_of p bytes) [] ++ cond t (rest_of p bytes) (b ∷ bytes)
    by more true = ap (λ bytes. b ∷ bytes) more
    by more false = refl

pub front_passes : (p : ℕ → Bool) (bytes : List ℕ) → AllPass p (front_of p bytes)
front_passes p [] = λ k d within. absurd (omega arith)
front_passes p (b ∷ bytes) = by (front_passes p bytes) (p b) refl
  where
    by : AllPass p (front_of p bytes) → (t : Bool) → p b ≡ t → AllPass p (cond t (b ∷ front_of p bytes) [])
    by more true passes zero d within = passes
    by more true passes (suc k) d within = more k d (omega arith)
    by more false fails k d within = absurd (omega arith)

pub rest_stops : (p : ℕ → Bool) (bytes : List ℕ) → StopsAt p (rest_of p bytes)
rest_stops p [] = tt
rest_stops p (b ∷ bytes) = by (rest_stops p bytes) (p b) refl
  where
    by : StopsAt p (rest_of p bytes) → (t : Bool) → p b ≡ t → StopsAt p (cond t (rest_of p bytes) (b ∷ bytes))
    by more true passes = more
    by more false fails = fails

pub rest_shorter : (p : ℕ → Bool) (bytes : List ℕ) → length (rest_of p bytes) ≤ length bytes
rest_shorter p [] = omega arith
rest_shorter p (b ∷ bytes) = by (rest_shorter p bytes) (p b)
  where
    by : length (rest_of p bytes) ≤ length bytes → (t : Bool) → length (cond t (rest_of p bytes) (b ∷ bytes)) ≤ length (b ∷ bytes)
    by more true = omega (arith, more)
    by more false = omega arith
