-- The lines of bits, one after another.
use Rattle.std.proofs.Common.{◌≡◌, ℕ, suc, ◌+◌, ◌<◌, ◌≤◌, List, [], ◌∷◌, ◌++◌, length, map, take, get_or, flat_map, refl, sym, ap, ap₂, ◌∙◌, arith, append_assoc, append-nil, sum}
use Rattle.std.proofs.lemmas.List.{length-append}
use Rattle.std.proofs.lemmas.List.Sums.{sum-map, sum_by-cons, sum_by_more, sum_by_more_le}
use Rattle.invariant_check.specs.Bits.{bit_name, bit_names}
use Rattle.invariant_check.specs.Texts.{bit_line, bit_lines}
use Rattle.invariant_check.proofs.Reading.{flat_more, length-bit_names}

bit_lines-append : (v : ℕ) (xs ys : List (List ℕ)) → bit_lines v (xs ++ ys)
    ≡ bit_lines v xs ++ bit_lines (v + length xs) ys
bit_lines-append v [] ys = let e : v ≡ v + 0 = omega arith in ap (λ n. bit_lines n ys) e
bit_lines-append v (x ∷ xs) ys =
    let e : v + 1 + length xs ≡ v + length (x ∷ xs) = omega arith in
    ap (λ (t : List ℕ). bit_line x v ++ t) (bit_lines-append (v + 1) xs ys)
    ∙ sym (append_assoc (bit_line x v) (bit_lines (v + 1) xs) (bit_lines (v + 1 + length xs) ys))
    ∙ ap (λ n. bit_line x v ++ bit_lines (v + 1) xs ++ bit_lines n ys) e

-- one more row of bits
rows_step : (v place : ℕ) (old now new : List ℕ) (xs ys : List (List ℕ)) → now ≡ old ++ bit_lines v xs → place
    ≡ v + length xs → new ≡ now ++ bit_lines place ys → new ≡ old ++ bit_lines v (xs ++ ys)
rows_step v place old now new xs ys so_far at made =
    made ∙ ap₂ (λ (t : List ℕ) (n : ℕ). t ++ bit_lines n ys) so_far at
    ∙ append_assoc old (bit_lines v xs) (bit_lines (v + length xs) ys)
    ∙ ap (λ (t : List ℕ). old ++ t) (sym (bit_lines-append v xs ys))

-- one more bit of a word
pub bit_step : (v k : ℕ) (name old now new : List ℕ) → now ≡ old ++ bit_lines v (bit_names name k) → new
    ≡ now ++ bit_line (bit_name name k) (v + k)
    → new ≡ old ++ bit_lines v (bit_names name (k + 1))
bit_step v k name old now new so_far made =
    let next : suc k ≡ k + 1 = omega arith in
    rows_step v (v + k) old now new (bit_names name k) (bit_name name k ∷ []) so_far
    (omega (arith, length-bit_names name k))
    (made ∙ ap (λ (t : List ℕ). now ++ t) (sym (append-nil (bit_line (bit_name name k) (v + k)))))
    ∙ ap (λ n. old ++ bit_lines v (bit_names name n)) next

module _ {X : Type 0} (width : X → ℕ) (bits : X → List (List ℕ)) (wide : (x : X) → length (bits x) ≡ width x) where
  length-bits : (xs : List X) → length (flat_map bits xs) ≡ sum (map width xs)
  length-bits [] = refl
  length-bits (x ∷ xs) = omega (
    arith,
    length-append (bits x) (flat_map bits xs),
    wide x,
    length-bits xs,
    sum_by-cons (λ (n : ℕ). n) (width x)
        (map width xs),
  )

  -- one more word
  pub word_step : (v place : ℕ) (old now new : List ℕ) (xs : List X) (k : ℕ) (x : X) → k < length xs → x ≡ get_or xs k x
      → place ≡ v + sum (map width (take k xs))
      → now ≡ old ++ bit_lines v (flat_map bits (take k xs)) → new ≡ now ++ bit_lines place (bits x) → new
      ≡ old ++ bit_lines v (flat_map bits (take (k + 1) xs))
  word_step v place old now new xs k x within is at so_far made =
      rows_step v place old now new (flat_map bits (take k xs)) (bits (get_or xs k x)) so_far
      (omega (arith, at, length-bits (take k xs)))
      (made ∙ ap (λ (y : X). now ++ bit_lines place (bits y)) is)
      ∙ ap (λ (rows : List (List ℕ)). old ++ bit_lines v rows) (sym (flat_more bits xs k x within))

-- the widths of one more word, which are not more than all
module _ {X : Type 0} (width : X → ℕ) where
  pub place_step : (v place : ℕ) (xs : List X) (k : ℕ) (x : X) → k < length xs → x ≡ get_or xs k x → place
      ≡ v + sum (map width (take k xs)) → place + width x ≡ v + sum (map width (take (k + 1) xs))
  place_step v place xs k x within is at =
      omega (
        arith,
        at,
        ap width is,
        sum-map width (take k xs),
        sum-map width (take (k + 1) xs),
        sum_by_more width xs k
            x within,
      )

  pub place_fits : (v place : ℕ) (xs : List X) (k : ℕ) (x : X) → k < length xs → x ≡ get_or xs k x → place
      ≡ v + sum (map width (take k xs)) → place + width x ≤ v + sum (map width xs)
  place_fits v place xs k x within is at =
      omega (arith, at, ap width is, sum-map width (take k xs), sum-map width xs, sum_by_more_le width xs k x within)
