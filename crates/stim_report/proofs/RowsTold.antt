-- Rows that are made value by value.
use Rattle.std.proofs.Common.{◌≡◌, ◌⊎◌, ℕ, ◌+◌, ◌<◌, ◌≤◌, List, [], ◌∷◌, ◌++◌, length, get_or, Some, sym, ap, ◌∙◌, subst, arith, inl, inr}
use Rattle.std.specs.Prelude.{option_map, slice_get}
use Rattle.std.specs.List.{AllByRecursion}
use Rattle.std.proofs.lemmas.Bool.{cases_lt}
use Rattle.std.proofs.lemmas.List.{get_or_append_left, get_or_push}
use Rattle.std.proofs.lemmas.Option.{same_Some, slice_get-map, slice_get-get_or}
use Rattle.kw_bits.specs.BitVector.{BitVector}
use Rattle.kw_bits.specs.Laws.{HasWidth}
use Rattle.typed_core.specs.Evaluation.{unit}
use Rattle.stim_report.specs.Shapes.{widths_of}
use Rattle.stim_report.specs.declared.shape.NameWidth.{NameWidth}

-- what holds of all and of one more
pub all_push : {X : Type 0} (P : X → Type 0) (xs : List X) (x : X) → AllByRecursion P xs → P x → AllByRecursion P (xs ++ x ∷ [])
all_push P [] x all one = (one, tt)
all_push P (y ∷ ys) x all one = (all.0, all_push P ys x all.1 one)

-- the values so far have the widths of their registers
abbrev pub AreWide : List NameWidth → List BitVector → ℕ → Type 0
AreWide registers values count = (number width : ℕ) → number < count → slice_get (widths_of registers) number ≡ Some width → HasWidth (get_or values number unit) width

-- and so has one more
pub wide_push : (registers : List NameWidth) (values : List BitVector) (i : ℕ) (register : NameWidth) (value : BitVector)
    → length values ≡ i → i < length registers → register ≡ get_or registers i register → HasWidth value register.width → AreWide registers values i → AreWide registers (values ++ value ∷ []) (i + 1)
wide_push registers values i register value count below is wide are number width less found = chosen (cases_lt number i)
  where
    chosen : (number < i) ⊎ (i ≤ number) → HasWidth (get_or (values ++ value ∷ []) number unit) width
    chosen (inl before) = subst (λ (v : BitVector). HasWidth v width) (sym (get_or_append_left values (value ∷ []) unit number (omega (arith, before, count)))) (are number width before found)
    chosen (inr last) =
        let same : number ≡ i = omega (arith, last, less) in
        let at : slice_get (widths_of registers) i ≡ Some register.width =
        slice_get-map (λ (one : NameWidth). one.width) registers i ∙ ap (option_map (λ (one : NameWidth). one.width)) (slice_get-get_or registers i register below ∙ ap Some (sym is)) in
        let w : register.width ≡ width = same_Some register.width width (sym at ∙ (ap (slice_get (widths_of registers)) (sym same) ∙ found)) in
        subst (λ (v : BitVector). HasWidth v width) (sym (get_or_push values value unit number (count ∙ sym same)))
        (subst (λ (n : ℕ). HasWidth value n) w wide)
