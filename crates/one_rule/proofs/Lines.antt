-- What a line of assignments gives an input.
use Rattle.std.proofs.Common.{◌≡◌, ℕ, ◌<◌, ◌≤◌, ◌≢◌, false, nat_eq, eqb-true, List, [], ◌∷◌, ◌++◌, length, All, get_or, Option, Some, None, unwrap_or, Err, inl, inr, refl, sym, ap, ◌∙◌, arith}
use Rattle.std.specs.List.{AllPairs, IsDistinct, Contains}
use Rattle.std.specs.List.Sorted.{IsBinarySearchResult, IsNonDecreasingBy, IsPermutation}
use Rattle.std.specs.Map.{keys_of, lookup}
use Rattle.std.specs.Ordering.{nat_cmp, ordering_index}
use Rattle.std.proofs.lemmas.Cmp.{nat_eq_equiv, ranked}
use Rattle.std.proofs.lemmas.Bool.Decides.{nat_tests, Decides-eqb}
use Rattle.std.proofs.lemmas.List.{get_or_default, get_or-map, length-map, map_push}
use Rattle.std.proofs.lemmas.Map.Keys.{IsDistinct-from_apart, IsDistinct-IsPermutation, apart_from_distinct}
use Rattle.std.proofs.lemmas.Map.Made.{IsDistinct-from_AllPairs}
use Rattle.std.proofs.lemmas.List.Sorted.{IsPermutation-map, IsPermutation-sym, Contains-permutation}
use Rattle.std.proofs.lemmas.Map.{lookup-none}
use Rattle.std.proofs.lemmas.Bool.{cases_lt}
use Rattle.std.proofs.lemmas.List.Elements.{All-map, All-push, recursion_from_All}
use Rattle.std.proofs.lemmas.List.Quantifiers.{all_pairs_push}
use Rattle.std.proofs.lemmas.Map.Views.{lookup-from_Contains, Contains-from_lookup}
use Rattle.kw_bits.specs.BitVector.{BitVector, zero_at}
use Rattle.typed_core.specs.Evaluation.{unit}
use Rattle.one_rule.specs.KeptLines.{IsAscending}
use Rattle.one_rule.specs.Stimulus.{Assignment, Assigns, IsLine, value_by}

-- a line in order names no input twice
pub IsDistinct-ascending : (line : List Assignment) → IsAscending line → IsDistinct nat_eq (keys_of line)
IsDistinct-ascending line up = IsDistinct-from_apart nat_eq (keys_of line) (λ i j d before within.
    let size : length (keys_of line) ≡ length line = length-map line (λ (a : Assignment). a.0) in
    let first = get_or-map (λ (a : Assignment). a.0) line i (d, unit) d (omega arith) in
    let second = get_or-map (λ (a : Assignment). a.0) line j (d, unit) d (omega arith) in
    let rising = up i j (d, unit) before (omega arith) in
    grind (arith, nat_tests))

-- the value of an input that the line names
pub value_at : (line : List Assignment) (input width at : ℕ) (d : Assignment) → IsAscending line → at < length line → (get_or line at d).0 ≡ input → (get_or line at d).1 ≡ value_by line input width
value_at line input width at d up within named =
    let value = (get_or line at d).1 in
    let here : get_or line at (input, value) ≡ (input, value) = get_or_default line at (input, value) d within ∙ ap (λ n. (n, value)) named in
    rw (lookup-from_Contains nat_eq_equiv input value line (IsDistinct-ascending line up) (at, within, here))

-- the value of an input that the line doesn't name
pub value_none : (line : List Assignment) (input width : ℕ) → All (λ (a : Assignment). nat_eq input a.0 ≡ false) line → value_by line input width ≡ zero_at width
value_none line input width absent =
    rw (lookup-none (nat_eq input) line (recursion_from_All (λ (a : Assignment). nat_eq input a.0 ≡ false) line absent))

-- the comparisons with an input rise along a line in order, as a binary search asks
comparisons_rise : (line : List Assignment) (input : ℕ) → IsAscending line → IsNonDecreasingBy (λ (a : Assignment). ordering_index (nat_cmp a.0 input)) line
comparisons_rise line input up i j d le within =
    let rising : (get_or line i d).0 ≤ (get_or line j d).0 = grind (arith, up i j d, λ (same : i ≡ j). ap (λ n. (get_or line n d).0) same) in
    grind (arith, nat_tests)

-- a binary search that doesn't find an input shows that the line doesn't name it
pub absent_from_search : (line : List Assignment) (input i : ℕ) → IsAscending line → IsBinarySearchResult (λ (a : Assignment). nat_cmp a.0 input) line (Err i) → All (λ (a : Assignment). nat_eq input a.0 ≡ false) line
absent_from_search line input i up parted k d within =
    let parts = parted (comparisons_rise line input up) in
    elim (cases_lt k i) [
      | inl below ↦ let less = ranked _ input _ (sym (parts.0 k d (omega arith) below)) in grind (arith, nat_tests)
      | inr above ↦ let greater = ranked _ input _ (sym (parts.1 k d above within)) in grind (arith, nat_tests)
    ]

-- ---- lines that name no input twice

-- two lines with the same assignments give an input the same
lookup-same : (xs ys : List Assignment) (input : ℕ) → IsDistinct nat_eq (keys_of xs) → IsDistinct nat_eq (keys_of ys) → ((a : Assignment) → Contains xs a → Contains ys a) → ((a : Assignment) → Contains ys a → Contains xs a) → lookup (nat_eq input) xs ≡ lookup (nat_eq input) ys
lookup-same xs ys input apart apart' to from = by_answers (lookup (nat_eq input) xs) (lookup (nat_eq input) ys) refl refl
  where
    by_answers : (o p : Option BitVector) → lookup (nat_eq input) xs ≡ o → lookup (nat_eq input) ys ≡ p → lookup (nat_eq input) xs ≡ lookup (nat_eq input) ys
    by_answers (Some v) p e f = e ∙ sym (lookup-from_Contains nat_eq_equiv input v ys apart' (to (input, v) (Contains-from_lookup eqb-true input v xs e)))
    by_answers None (Some v) e f = lookup-from_Contains nat_eq_equiv input v xs apart (from (input, v) (Contains-from_lookup eqb-true input v ys f)) ∙ sym f
    by_answers None None e f = e ∙ sym f

-- ---- a line that is sorted

-- its inputs stay distinct
pub IsDistinct-sorted : (line sorted : List Assignment) → AllPairs (λ x y. x ≢ y) (keys_of line) → IsPermutation line sorted → IsDistinct nat_eq (keys_of sorted)
IsDistinct-sorted line sorted once moved =
    IsDistinct-IsPermutation nat_eq (λ x y. grind (arith, nat_tests)) (keys_of line) (keys_of sorted) (IsPermutation-map (λ (a : Assignment). a.0) line sorted moved) (IsDistinct-from_AllPairs Decides-eqb (keys_of line) once)

-- so they ascend
pub IsAscending-sorted : (line : List Assignment) → IsNonDecreasingBy (λ (a : Assignment). a.0) line → IsDistinct nat_eq (keys_of line) → IsAscending line
IsAscending-sorted line rising apart i j d before within =
    let size : length (keys_of line) ≡ length line = length-map line (λ (a : Assignment). a.0) in
    let first = get_or-map (λ (a : Assignment). a.0) line i d 0 (omega arith) in
    let second = get_or-map (λ (a : Assignment). a.0) line j d 0 (omega arith) in
    let differ = apart_from_distinct nat_eq (keys_of line) i j 0 apart before (omega arith) in
    let up = rising i j d (omega arith) within in
    grind (arith, nat_tests)

-- and each has the value that it had
pub value_by-sorted : (line sorted : List Assignment) (input width : ℕ) → AllPairs (λ x y. x ≢ y) (keys_of line) → IsPermutation line sorted → value_by sorted input width ≡ value_by line input width
value_by-sorted line sorted input width once moved =
    let back = IsPermutation-sym line sorted moved in
    ap (λ o. unwrap_or o (zero_at width)) (lookup-same sorted line input (IsDistinct-sorted line sorted once moved) (IsDistinct-from_AllPairs Decides-eqb (keys_of line) once) (λ a. Contains-permutation sorted line a back) (λ a. Contains-permutation line sorted a moved))

-- ---- a line that is made

-- one assignment more, to an input that isn't named yet
pub IsLine-push : (widths : List ℕ) (line : List Assignment) (a : Assignment) → IsLine widths line → Assigns widths a → All (λ (x : Assignment). x.0 ≢ a.0) line → IsLine widths (line ++ a ∷ [])
IsLine-push widths line a is_line assigns apart =
    record {
      values = All-push (Assigns widths) line a is_line.values assigns;
      once = rw map_push (all_pairs_push (λ x y. x ≢ y) (keys_of line) a.0 is_line.once (All-map (λ x. x ≢ a.0) (λ (x : Assignment). x.0) line apart));
    }
