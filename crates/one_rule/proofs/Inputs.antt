-- The values of all inputs by a line, one by one.
use Rattle.std.proofs.Common.{◌≡◌, ◌≢◌, ℕ, ◌+◌, ◌<◌, nat_eq, eqb-true, Option, Some, None, unwrap_or, All, subst, List, [], ◌∷◌, ◌++◌, length, map, take, get_or, refl, sym, ap, ◌∙◌, add-zero, zero-add, arith}
use Rattle.std.specs.Prelude.{slice_get}
use Rattle.std.specs.List.{enumerate_from, AllPairs}
use Rattle.std.specs.List.Sorted.{IsPermutation}
use Rattle.std.specs.Map.{keys_of, lookup}
use Rattle.std.proofs.lemmas.Option.{slice_get_within, slice_get-get_or, get_or_from_slice_get}
use Rattle.std.proofs.lemmas.Nat.{pow_pos}
use Rattle.std.proofs.lemmas.List.Elements.{All-contains}
use Rattle.std.proofs.lemmas.Map.Views.{Contains-from_lookup}
use Rattle.std.proofs.lemmas.List.{get_or-map, length-map, map_push, same_lists, take_more, length-take-le}
use Rattle.std.proofs.lemmas.List.FromFn.{length-enumerate_from, get_or-enumerate_from}
use Rattle.kw_bits.specs.BitVector.{BitVector, zero_at}
use Rattle.typed_core.specs.Evaluation.{unit}
use Rattle.kw_bits.specs.Laws.{HasWidth}
use Rattle.typed_core.specs.Valid.{IsWidth}
use Rattle.typed_core.specs.Widths.{HaveWidths}
use Rattle.one_rule.specs.KeptLines.{IsKeptLine}
use Rattle.one_rule.specs.inner.KeptLines.{AgreesWith}
use Rattle.one_rule.specs.Stimulus.{Assignment, Assigns, inputs_by, value_by}
use Rattle.one_rule.proofs.Lines.{value_at, value_by-sorted}

pub length-inputs_by : (widths : List ℕ) (line : List Assignment) → length (inputs_by widths line) ≡ length widths
unfolding inputs_by
length-inputs_by widths line = length-map (enumerate_from 0 widths) _ ∙ length-enumerate_from 0 widths

pub get_or-inputs_by : (widths : List ℕ) (line : List Assignment) (k : ℕ) (d : BitVector) → k < length widths → get_or (inputs_by widths line) k d ≡ value_by line k (get_or widths k 0)
unfolding inputs_by
get_or-inputs_by widths line k d within =
    let size = length-enumerate_from 0 widths in
    get_or-map (λ (input : ℕ × ℕ). value_by line input.0 input.1) (enumerate_from 0 widths) k (0, 0) d (omega arith)
    ∙ ap (λ (input : ℕ × ℕ). value_by line input.0 input.1) (get_or-enumerate_from 0 widths k (0, 0) within)
    ∙ ap (λ n. value_by line n (get_or widths k 0)) (zero-add k)

-- values of which each is the input's by the line
pub inputs_by-from_each : (widths : List ℕ) (line : List Assignment) (inputs : List BitVector) → length inputs ≡ length widths → ((k : ℕ) (d : BitVector) → k < length widths → get_or inputs k d ≡ value_by line k (get_or widths k 0)) → inputs ≡ inputs_by widths line
inputs_by-from_each widths line inputs size each =
    let own = length-inputs_by widths line in
    same_lists inputs (inputs_by widths line) (size ∙ sym own) (λ k d within. each k d (omega arith) ∙ sym (get_or-inputs_by widths line k d (omega arith)))

-- one element more, at the end
enumerate_from-push : (n : ℕ) (xs : List ℕ) (x : ℕ) → enumerate_from n (xs ++ x ∷ []) ≡ enumerate_from n xs ++ (n + length xs, x) ∷ []
enumerate_from-push n [] x = ap (λ k. (k, x) ∷ []) (sym (add-zero n))
enumerate_from-push n (y ∷ ys) x =
    let place : n + 1 + length ys ≡ n + (length (y ∷ ys)) = omega arith in
    ap (λ zs. (n, y) ∷ zs) (enumerate_from-push (n + 1) ys x ∙ ap (λ k. enumerate_from (n + 1) ys ++ (k, x) ∷ []) place)

-- one input more
pub inputs_by_more : (widths : List ℕ) (line : List Assignment) (n : ℕ) → n < length widths → inputs_by (take (n + 1) widths) line ≡ inputs_by (take n widths) line ++ value_by line n (get_or widths n 0) ∷ []
unfolding inputs_by
inputs_by_more widths line n within =
    let width = get_or widths n 0 in
    let value = λ (input : ℕ × ℕ). value_by line input.0 input.1 in
    let size : length (take n widths) ≡ n = length-take-le n widths (omega arith) in
    let numbered : enumerate_from 0 (take (n + 1) widths) ≡ enumerate_from 0 (take n widths) ++ (n, width) ∷ [] =
    ap (enumerate_from 0) (take_more widths n 0 within) ∙ enumerate_from-push 0 (take n widths) width
    ∙ ap (λ k. enumerate_from 0 (take n widths) ++ (k, width) ∷ []) (zero-add (length (take n widths)) ∙ size) in
    ap (map value) numbered ∙ map_push value (enumerate_from 0 (take n widths)) (n, width)

-- no inputs have no values
pub inputs_by-nil : (line : List Assignment) → inputs_by [] line ≡ []
unfolding inputs_by
inputs_by-nil line = refl

-- for a loop over all inputs
pub ruleset input_steps = (inputs_by-nil, inputs_by_more)

-- ---- values that fit

zero_fits : (width : ℕ) → IsWidth width → HasWidth (zero_at width) width
zero_fits width (some, most) =
    (record { some_bit = some; no_wider = most; in_range = pow_pos width }, refl)

-- the value of an input by a line has the input's width
value_by_fits : (widths : List ℕ) (line : List Assignment) (input width : ℕ) → All (Assigns widths) line → slice_get widths input ≡ Some width → IsWidth width → HasWidth (value_by line input width) width
value_by_fits widths line input width values found wide = by_answer (lookup (nat_eq input) line) refl
  where
    by_answer : (o : Option BitVector) → lookup (nat_eq input) line ≡ o → HasWidth (unwrap_or o (zero_at width)) width
    by_answer None e = zero_fits width wide
    by_answer (Some v) e =
        let a = All-contains (Assigns widths) line (input, v) values (Contains-from_lookup eqb-true input v line e) in
        let same : a.0 ≡ width = cc in
        subst (λ (w : ℕ). HasWidth v w) same a.2

-- the values of all inputs by a line fit
pub inputs_by_fits : (widths : List ℕ) (line : List Assignment) → All IsWidth widths → All (Assigns widths) line → HaveWidths widths (inputs_by widths line)
inputs_by_fits widths line each values =
    record {
      count = length-inputs_by widths line;
      each = λ input width found.
          let within = slice_get_within widths input width found in
          let here = get_or_from_slice_get widths input width 0 found in
          subst (λ (v : BitVector). HasWidth v width) (sym (get_or-inputs_by widths line input unit within ∙ ap (value_by line input) here)) (value_by_fits widths line input width values found (subst IsWidth here (each input 0 within)));
    }

-- ---- lines that give the same

-- a sorted line gives all inputs what it gave
pub inputs_by-sorted : (widths : List ℕ) (line sorted : List Assignment) → AllPairs (λ x y. x ≢ y) (keys_of line) → IsPermutation line sorted → inputs_by widths sorted ≡ inputs_by widths line
inputs_by-sorted widths line sorted once moved =
    inputs_by-from_each widths line (inputs_by widths sorted) (length-inputs_by widths sorted) (λ k d within. get_or-inputs_by widths sorted k d within ∙ value_by-sorted line sorted k (get_or widths k 0) once moved)

-- two lines of which each agrees with the other give an input the same
value_by-same : (widths : List ℕ) (a b : List Assignment) (input width : ℕ) → All (Assigns widths) a → All (Assigns widths) b → AgreesWith a b → AgreesWith b a → slice_get widths input ≡ Some width → value_by a input width ≡ value_by b input width
value_by-same widths a b input width values values' to from found = by_answers (lookup (nat_eq input) a) (lookup (nat_eq input) b) refl refl
  where
    -- what a line gives agrees with the other line
    given : (line other : List Assignment) (v : BitVector) → All (Assigns widths) line → AgreesWith line other → lookup (nat_eq input) line ≡ Some v → value_by other input width ≡ v
    given line other v all agrees e =
        let named = Contains-from_lookup eqb-true input v line e in
        let assigned = All-contains (Assigns widths) line (input, v) all named in
        let same : assigned.0 ≡ width = cc in
        subst (λ (w : ℕ). value_by other input w ≡ v) (assigned.2.1 ∙ same) (All-contains (λ (x : Assignment). value_by other x.0 x.1.width ≡ x.1) line (input, v) agrees named)

    by_answers : (o p : Option BitVector) → lookup (nat_eq input) a ≡ o → lookup (nat_eq input) b ≡ p → value_by a input width ≡ value_by b input width
    by_answers (Some v) p e f = ap (λ q. unwrap_or q (zero_at width)) e ∙ sym (given a b v values to e)
    by_answers None (Some v) e f = given b a v values' from f ∙ ap (λ q. unwrap_or q (zero_at width)) (sym f)
    by_answers None None e f = ap (λ q. unwrap_or q (zero_at width)) (e ∙ sym f)

-- and so all inputs
pub inputs_by-same : (widths : List ℕ) (a b : List Assignment) → IsKeptLine widths a → IsKeptLine widths b → AgreesWith a b → AgreesWith b a → inputs_by widths a ≡ inputs_by widths b
inputs_by-same widths a b kept kept' to from =
    inputs_by-from_each widths b (inputs_by widths a) (length-inputs_by widths a) (λ k d within. get_or-inputs_by widths a k d within ∙ value_by-same widths a b k (get_or widths k 0) kept.values kept'.values to from (slice_get-get_or widths k 0 within))

-- lines that give all inputs the same agree with each other
pub AgreesWith-from_same : (widths : List ℕ) (a b : List Assignment) → IsKeptLine widths a → inputs_by widths a ≡ inputs_by widths b → AgreesWith a b
AgreesWith-from_same widths a b kept e k d within =
    let x = get_or a k d in
    let assigned = kept.values k d within in
    let inside = slice_get_within widths x.0 assigned.0 assigned.1 in
    let width : get_or widths x.0 0 ≡ x.1.width = get_or_from_slice_get widths x.0 assigned.0 0 assigned.1 ∙ sym assigned.2.1 in
    let same = sym (get_or-inputs_by widths b x.0 unit inside) ∙ ap (λ xs. get_or xs x.0 unit) (sym e) ∙ get_or-inputs_by widths a x.0 unit inside in
    subst (λ (w : ℕ). value_by b x.0 w ≡ x.1) width (same ∙ sym (value_at a x.0 (get_or widths x.0 0) k d kept.order within refl))
