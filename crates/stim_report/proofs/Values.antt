-- The values of registers, one by one.
use Rattle.std.proofs.Common.{◌≡◌, ℕ, zero, suc, ◌+◌, ◌/◌, ◌<◌, ◌≤◌, List, [], ◌∷◌, ◌++◌, length, length-append, drop, get_or, Some, refl, sym, ap, ap₂, ◌∙◌, subst, arith}
use Rattle.std.specs.Prelude.{option_map, slice_get}
use Rattle.std.proofs.lemmas.List.{drop_more, drop-drop, get_or_default, length-map}
use Rattle.std.proofs.lemmas.Option.{slice_get-map, slice_get-get_or}
use Rattle.kw_bits.specs.BitVector.{BitVector}
use Rattle.kw_bits.specs.Laws.{HasWidth}
use Rattle.kw_bits.specs.Reserved.{ReservedList}
use Rattle.typed_core.specs.Evaluation.{unit}
use Rattle.typed_core.specs.Widths.{HaveWidths}
use Rattle.stim_report.specs.inner.Pages.{Leaves}
use Rattle.stim_report.specs.Report.{hex, registers_text, value_text}
use Rattle.stim_report.specs.Shapes.{widths_of}
use Rattle.stim_report.specs.declared.shape.NameWidth.{NameWidth}
use Rattle.stim_report.proofs.Hex.{length_hex_digits}

-- a register's text is what is left next
registers_more : (registers : List NameWidth) (values : List BitVector) (i : ℕ) (register : NameWidth) (value : BitVector) → i < length registers → i < length values
    → register ≡ get_or registers i register → value ≡ get_or values i value
    → registers_text (drop i registers) (drop i values) ≡ (32 ∷ value_text register value) ++ registers_text (drop (i + 1) registers) (drop (i + 1) values)
registers_more registers values i register value h k is holds =
    ap₂ (λ (rs : List NameWidth) (vs : List BitVector). registers_text rs vs) (drop_more registers i register h) (drop_more values i value k)
    ∙ ap₂ (λ (r : NameWidth) (v : BitVector). (32 ∷ value_text r v) ++ registers_text (drop (i + 1) registers) (drop (i + 1) values)) (sym is) (sym holds)

pub register_left : {old now : ReservedList ℕ} {whole : List ℕ} (registers : List NameWidth) (values : List BitVector) (i : ℕ) (register : NameWidth) (value : BitVector)
    → i < length registers → HaveWidths (widths_of registers) values → register ≡ get_or registers i register → value ≡ get_or values i value
    → Leaves old whole now (registers_text (drop i registers) (drop i values))
    → Leaves old whole now ((32 ∷ value_text register value) ++ registers_text (drop (i + 1) registers) (drop (i + 1) values))
register_left {old} {now} {whole} registers values i register value h have is holds left =
    subst (λ (text : List ℕ). Leaves old whole now text) (registers_more registers values i register value h (within h have) is holds) left
  where
    within : i < length registers → HaveWidths (widths_of registers) values → i < length values
    within h have = omega (arith, h, have.count, length-map registers (λ (one : NameWidth). one.width))

-- the value has the register's width
pub value_width : (registers : List NameWidth) (values : List BitVector) (i : ℕ) (register : NameWidth) (value : BitVector)
    → i < length registers → HaveWidths (widths_of registers) values → register ≡ get_or registers i register → value ≡ get_or values i value → HasWidth value register.width
value_width registers values i register value h have is holds =
    let found : slice_get (widths_of registers) i ≡ Some register.width =
    slice_get-map (λ (one : NameWidth). one.width) registers i ∙ ap (option_map (λ (one : NameWidth). one.width)) (slice_get-get_or registers i register h ∙ ap Some (sym is)) in
    let same : get_or values i unit ≡ value = get_or_default values i unit value (omega (arith, h, have.count, length-map registers (λ (one : NameWidth). one.width))) ∙ sym holds in
    subst (λ (v : BitVector). HasWidth v register.width) same (have.each i register.width found)

-- how long the text of one register is
length_value_text : (register : NameWidth) (value : BitVector) → length (value_text register value) ≡ length register.name + (register.width + 3) / 4 + 1
length_value_text register value =
    omega (arith, length-append register.name (61 ∷ hex register.width value.number), length_hex_digits ((register.width + 3) / 4) value.number)

bound_at : (registers : List NameWidth) (values : List BitVector) → (register : NameWidth)
    → length (registers_text (register ∷ registers) values) ≤ length register.name + (register.width + 3) / 4 + 2 + length (registers_text registers (drop 1 values))
bound_at registers [] register = omega arith
bound_at registers (value ∷ values) register =
    omega (arith, length-append (32 ∷ value_text register value) (registers_text registers values), length_value_text register value)

-- and that of those from one on
pub registers_bound : (registers : List NameWidth) (values : List BitVector) (i : ℕ) (register : NameWidth) → i < length registers → register ≡ get_or registers i register
    → length (registers_text (drop i registers) (drop i values))
    ≤ length register.name + (register.width + 3) / 4 + 2 + length (registers_text (drop (i + 1) registers) (drop (i + 1) values))
registers_bound registers values i register h is =
    let bound = bound_at (drop (i + 1) registers) (drop i values) (get_or registers i register) in
    let behind : drop 1 (drop i values) ≡ drop (i + 1) values = drop-drop 1 i values in
    rw (drop_more registers i register h, ← is) (rw (← behind) (rw (is) bound))

-- and it begins with a space
pub register_begins : {old now : ReservedList ℕ} {whole : List ℕ} (registers : List NameWidth) (values : List BitVector) (i : ℕ)
    → i < length registers → HaveWidths (widths_of registers) values
    → Leaves old whole now (registers_text (drop i registers) (drop i values))
    → Leaves old whole now (32 ∷ drop 1 (registers_text (drop i registers) (drop i values)))
register_begins {old} {now} {whole} registers values i h have left =
    let few : i < length values = omega (arith, h, have.count, length-map registers (λ (one : NameWidth). one.width)) in
    subst (λ (text : List ℕ). Leaves old whole now text) (begins registers values i h few) left
  where
    begins : (registers : List NameWidth) (values : List BitVector) (i : ℕ) → i < length registers → i < length values
        → registers_text (drop i registers) (drop i values) ≡ 32 ∷ drop 1 (registers_text (drop i registers) (drop i values))
    begins [] values i h k = absurd (omega (arith, h))
    begins (register ∷ registers) [] i h k = absurd (omega (arith, k))
    begins (register ∷ registers) (value ∷ values) zero h k = refl
    begins (register ∷ registers) (value ∷ values) (suc i) h k = begins registers values i (omega (arith, h)) (omega (arith, k))
