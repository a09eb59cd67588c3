-- The lines of registers, one by one.
use Rattle.std.proofs.Common.{◌≡◌, ℕ, ◌+◌, ◌<◌, ◌≤◌, List, [], ◌∷◌, ◌++◌, length, drop, get_or, Some, append-nil, refl, sym, ap, ap₂, ◌∙◌, subst, append_assoc, arith}
use Rattle.std.specs.Prelude.{option_map, slice_get}
use Rattle.std.proofs.lemmas.List.{drop_all, drop_more, get_or_default}
use Rattle.std.proofs.lemmas.Option.{slice_get-map, slice_get-get_or}
use Rattle.kw_bits.specs.BitVector.{BitVector}
use Rattle.kw_bits.specs.Laws.{HasWidth}
use Rattle.typed_core.specs.Evaluation.{unit}
use Rattle.stim_report.specs.Shapes.{widths_of}
use Rattle.stim_report.specs.Summary.{value_line, value_lines}
use Rattle.stim_report.specs.Tallies.{AreOf}
use Rattle.stim_report.specs.declared.shape.NameWidth.{NameWidth}

-- a value has its register's width
pub value_at : (registers : List NameWidth) (values : List BitVector) (i : ℕ) (register : NameWidth) (value : BitVector)
    → i < length values → length values ≤ length registers → AreOf registers values → register ≡ get_or registers i register → value ≡ get_or values i value → HasWidth value register.width
value_at registers values i register value h few are is holds =
    let found : slice_get (widths_of registers) i ≡ Some register.width =
    slice_get-map (λ (one : NameWidth). one.width) registers i ∙ ap (option_map (λ (one : NameWidth). one.width)) (slice_get-get_or registers i register (omega (arith, h, few)) ∙ ap Some (sym is)) in
    subst (λ (v : BitVector). HasWidth v register.width) (get_or_default values i unit value h ∙ sym holds) (are i register.width h found)

-- its line is written next
pub values_more : (registers : List NameWidth) (values : List BitVector) (i : ℕ) (register : NameWidth) (value : BitVector)
    → i < length values → length values ≤ length registers → register ≡ get_or registers i register → value ≡ get_or values i value
    → (whole now next : List ℕ) → now ++ value_lines (drop i registers) (drop i values) ≡ whole → next ≡ now ++ value_line register value
    → next ++ value_lines (drop (i + 1) registers) (drop (i + 1) values) ≡ whole
values_more registers values i register value h few is holds whole now next left written =
    let rest = value_lines (drop (i + 1) registers) (drop (i + 1) values) in
    ap (λ text. text ++ rest) written ∙ append_assoc now (value_line register value) rest
    ∙ sym (ap (λ text. now ++ text)
    (ap₂ (λ (rs : List NameWidth) (vs : List BitVector). value_lines rs vs) (drop_more registers i register (omega (arith, h, few))) (drop_more values i value h)
    ∙ ap₂ (λ (r : NameWidth) (v : BitVector). value_line r v ++ rest) (sym is) (sym holds)))
    ∙ left

no_values : (registers : List NameWidth) → value_lines registers [] ≡ []
no_values [] = refl
no_values (register ∷ registers) = refl

-- behind the last value nothing is left
pub values_end : (registers : List NameWidth) (values : List BitVector) (i : ℕ) → length values ≤ i → (whole now : List ℕ) → now ++ value_lines (drop i registers) (drop i values) ≡ whole → now ≡ whole
values_end registers values i h whole now left =
    sym (append-nil now) ∙ ap (λ text. now ++ text) (sym (ap (λ (vs : List BitVector). value_lines (drop i registers) vs) (drop_all i values h) ∙ no_values (drop i registers))) ∙ left
