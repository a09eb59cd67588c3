-- Lists of values that have their widths, item by item.
use Rattle.std.proofs.Common.{◌≡◌, ◌≢◌, ℕ, zero, suc, ◌<◌, ◌≤◌, ◌⊎◌, inl, inr, List, [], ◌∷◌, length, Some, refl, sym, ap, ◌∙◌, subst, length-set, arith}
use Rattle.std.specs.Prelude.{slice_get, slice_index_or, slice_set}
use Rattle.std.proofs.lemmas.Option.{slice_get_within}
use Rattle.std.proofs.lemmas.List.{get_or-set_same, get_or-set_other}
use Rattle.std.proofs.lemmas.Bool.{cases_eq}
use Rattle.kw_bits.specs.BitVector.{BitVector}
use Rattle.kw_bits.specs.Laws.{HasWidth}
use Rattle.typed_core.specs.Evaluation.{unit}
use Rattle.typed_core.specs.Widths.{HaveWidths}

-- an item that was found twice is one item
pub found-same : {X : Type 0} (xs : List X) (k : ℕ) (x y : X) → slice_get xs k ≡ Some x → slice_get xs k ≡ Some y → x ≡ y
found-same xs k x y e f = cc

-- no name is bound
pub HaveWidths-empty : HaveWidths [] []
HaveWidths-empty = record { count = refl; each = λ number width e. absurd cc }

-- one more value in front
pub HaveWidths-cons : (width : ℕ) (widths : List ℕ) (value : BitVector) (values : List BitVector) → HasWidth value width → HaveWidths widths values → HaveWidths (width ∷ widths) (value ∷ values)
HaveWidths-cons width widths value values h all = record { count = ap (λ n. suc n) all.count; each = item }
  where
    item : (number w : ℕ) → slice_get (width ∷ widths) number ≡ Some w → HasWidth (slice_index_or (value ∷ values) number unit) w
    item zero w e =
        let same : width ≡ w = cc in
        subst (λ (n : ℕ). HasWidth value n) same h
    item (suc number) w e = all.each number w e

-- where there is a width, there is a value
pub within : (widths : List ℕ) (values : List BitVector) (number width : ℕ) → HaveWidths widths values → slice_get widths number ≡ Some width → number < length values
within widths values number width all e = omega (arith, all.count, slice_get_within widths number width e)

-- a width that some value has is at least 1
pub some_bit : (widths : List ℕ) (values : List BitVector) (number width : ℕ) → HaveWidths widths values → slice_get widths number ≡ Some width → 1 ≤ width
some_bit widths values number width all e =
    let h = all.each number width e in
    omega (arith, h.0.some_bit, h.1)

-- a value of the width of the one in whose place it is put
pub HaveWidths-set : (widths : List ℕ) (values : List BitVector) (number width : ℕ) (value : BitVector) → HaveWidths widths values → slice_get widths number ≡ Some width → HasWidth value width → HaveWidths widths (slice_set values number value)
HaveWidths-set widths values number width value all found h = record {
  count = length-set values number value ∙ all.count;
  each = λ other w e. item other w e (cases_eq other number);
}
  where
    inside : number < length values
    inside = within widths values number width all found

    item : (other w : ℕ) → slice_get widths other ≡ Some w → ((other ≡ number) ⊎ (other ≢ number)) → HasWidth (slice_index_or (slice_set values number value) other unit) w
    item other w e (inl here) =
        let mine : slice_get widths number ≡ Some w = subst (λ (n : ℕ). slice_get widths n ≡ Some w) here e in
        let same = ap (λ n. slice_index_or (slice_set values number value) n unit) here ∙ get_or-set_same values number value unit inside in
        subst (λ (v : BitVector). HasWidth v w) (sym same) (subst (λ (n : ℕ). HasWidth value n) (found-same widths number width w found mine) h)
    item other w e (inr there) =
        subst (λ (v : BitVector). HasWidth v w) (sym (get_or-set_other values number other value unit there)) (all.each other w e)
