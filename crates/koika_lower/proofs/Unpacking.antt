-- No two values of a valid type are packed into the same bits, so that packing is undone by unpacking.
use Rattle.std.proofs.Common.{◌≡◌, ℕ, ◌+◌, ◌≤◌, List, [], ◌∷◌, length, map, replicate, Option, arith, refl, ap, ap₂, sym, subst, ◌∙◌}
use Rattle.std.specs.List.{AllByRecursion}
use Rattle.kw_bits.specs.BitVector.{BitVector}
use Rattle.kw_bits.specs.Laws.{HasWidth}
use Rattle.koika_types.specs.Values.{packed, packed_part, stacked, stacked_up}
use Rattle.koika_types.specs.declared.value.Value.{Value, out-Value, roll-out-Value}
use Rattle.koika_types.specs.declared.value.Value.TheFolds.{ind-Value, map-Value}
use Rattle.koika_types.specs.declared.value.Value.TheOpen.{Value-F}
use Rattle.koika_types.specs.declared.value.Value.TheViews.{roll-Value}
use Rattle.koika_types.proofs.Layers.{packed-roll}
use Rattle.koika_types.proofs.Stacks.{IsSized, concat-IsSized, concat-parts}
use Rattle.koika_types.proofs.Sizes.{joined_width}
use Rattle.koika_check.specs.Composites.{fields_by, fields_of}
use Rattle.koika_check.specs.Meaning.{unpacked}
use Rattle.koika_check.specs.Types.{of_base, width_of}
use Rattle.koika_check.specs.Typing.{IsAmong, IsOf, IsType, IsTypedDesign, Pairwise, PartIsOf}
use Rattle.koika_check.specs.declared.checked.Checked.{Checked}
use Rattle.koika_check.specs.declared.checked.CheckedField.{CheckedField}
use Rattle.koika_check.specs.declared.checked.Struct.{Struct}
use Rattle.koika_check.specs.declared.typed.BaseType.{BaseType}
use Rattle.koika_check.specs.declared.typed.BaseType.TheVariants as base
use Rattle.koika_check.specs.declared.typed.ValueType.{ValueType}
use Rattle.koika_syntax.proofs.TreeParts.{Such}
use Rattle.koika_check.proofs.TypingLayers.{open-IsOf}
use Rattle.koika_lower.proofs.TypedNumbers.{base_of, lengths_of}
use Rattle.koika_lower.proofs.Values.{all-each, array-width, constant-stands, declared-struct, first_of, item-type, same_types, total, types_of, unpacked-stands}

struct_of : BaseType → ℕ
struct_of (base.Struct number) = number
struct_of b = 0

same-struct : (a b : ℕ) → of_base (base.Struct a) ≡ of_base (base.Struct b) → a ≡ b
unfolding base_of struct_of
same-struct a b e = ap struct_of (ap base_of e)

module _ (d : Checked) (is : IsTypedDesign d) where
  -- a value of a valid type has the type's bits
  wide : (v : Value) (t : ValueType) → IsType d t → IsOf d v t → HasWidth (packed v) (width_of d t)
  wide v t valid of = (constant-stands d is t v valid of).2

  down-width : (vs : List Value) (ts : List ValueType) → AllByRecursion (IsType d) ts → Pairwise (IsOf d) vs ts → ((stacked (map packed vs)).width ≡ total d ts) × IsSized (stacked (map packed vs))
  down-width [] [] valid are = (refl, omega arith)
  down-width [] (t ∷ ts) valid are = absurd are
  down-width (v ∷ vs) [] valid are = absurd are
  down-width (v ∷ vs) (t ∷ ts) valid are =
      let first = wide v t valid.0 are.0 in
      let rest = down-width vs ts valid.1 are.1 in
      (joined_width (packed v) (stacked (map packed vs)) ∙ ap₂ (λ a b. a + b) first.1 rest.0, concat-IsSized (packed v) (stacked (map packed vs)) first.0.in_range rest.1)

  up-width : (vs : List Value) (ts : List ValueType) → AllByRecursion (IsType d) ts → Pairwise (IsOf d) vs ts → IsSized (stacked_up (map packed vs))
  up-width [] [] valid are = omega arith
  up-width [] (t ∷ ts) valid are = absurd are
  up-width (v ∷ vs) [] valid are = absurd are
  up-width (v ∷ vs) (t ∷ ts) valid are =
      concat-IsSized (stacked_up (map packed vs)) (packed v) (up-width vs ts valid.1 are.1) (wide v t valid.0 are.0).0.in_range

  abbrev IsOnly : Value → Type 0
  IsOnly v = (w : Value) (t : ValueType) → IsType d t → IsOf d v t → IsOf d w t → packed v ≡ packed w → v ≡ w

  abbrev values : List (Such IsOnly) → List Value
  values = map (λ e. e.0)

  only-down : (es : List (Such IsOnly)) (ws : List Value) (ts : List ValueType) → AllByRecursion (IsType d) ts → Pairwise (IsOf d) (values es) ts → Pairwise (IsOf d) ws ts →
      stacked (map packed (values es)) ≡ stacked (map packed ws) → values es ≡ ws
  only-down [] [] [] valid h k e = refl
  only-down [] ws (t ∷ ts) valid h k e = absurd h
  only-down [] (w ∷ ws) [] valid h k e = absurd k
  only-down (p ∷ es) ws [] valid h k e = absurd h
  only-down (p ∷ es) [] (t ∷ ts) valid h k e = absurd k
  only-down (p ∷ es) (w ∷ ws) (t ∷ ts) valid h k e =
      let low = down-width (values es) ts valid.1 h.1 in
      let low' = down-width ws ts valid.1 k.1 in
      let parts = concat-parts (packed p.0) (stacked (map packed (values es))) (packed w) (stacked (map packed ws)) (low.0 ∙ sym low'.0) low.1 low'.1 e in
      ap₂ (λ x xs. x ∷ xs) (p.1 w t valid.0 h.0 k.0 parts.0) (only-down es ws ts valid.1 h.1 k.1 parts.1)

  only-up : (es : List (Such IsOnly)) (ws : List Value) (ts : List ValueType) → AllByRecursion (IsType d) ts → Pairwise (IsOf d) (values es) ts → Pairwise (IsOf d) ws ts →
      stacked_up (map packed (values es)) ≡ stacked_up (map packed ws) → values es ≡ ws
  only-up [] [] [] valid h k e = refl
  only-up [] ws (t ∷ ts) valid h k e = absurd h
  only-up [] (w ∷ ws) [] valid h k e = absurd k
  only-up (p ∷ es) ws [] valid h k e = absurd h
  only-up (p ∷ es) [] (t ∷ ts) valid h k e = absurd k
  only-up (p ∷ es) (w ∷ ws) (t ∷ ts) valid h k e =
      let low = wide p.0 t valid.0 h.0 in
      let low' = wide w t valid.0 k.0 in
      let parts = concat-parts (stacked_up (map packed (values es))) (packed p.0) (stacked_up (map packed ws)) (packed w) (low.1 ∙ sym low'.1) low.0.in_range low'.0.in_range e in
      ap₂ (λ x xs. x ∷ xs) (p.1 w t valid.0 h.0 k.0 parts.1) (only-up es ws ts valid.1 h.1 k.1 parts.0)

  -- the types of the fields of a struct that is a valid type
  fields-valid : (number : ℕ) → IsType d (of_base (base.Struct number)) → AllByRecursion (IsType d) (map (λ (f : CheckedField). f.of) (fields_of d number))
  fields-valid number valid =
      let it = declared-struct d number valid in
      let s = is.structs number it.struct it.is in
      let each = subst (λ (o : Option Struct). AllByRecursion (λ (f : CheckedField). IsType d f.of × IsAmong number f.of.base) (fields_by o)) (sym it.is)
      (all-each d is (λ (f : CheckedField). IsType d f.of × IsAmong number f.of.base) it.struct.fields s.fields) in
      types_of d is (fields_of d number) (first_of d is (fields_of d number) number each)

  abbrev opened : Value-F (Such IsOnly) → Value-F Value
  opened = map-Value (Such IsOnly) Value (λ e. e.0)

  abbrev bits_of : Value-F Value → BitVector
  bits_of x = packed_part (map-Value Value BitVector packed x)

  only-layer : (y : Value-F (Such IsOnly)) (x : Value-F Value) (t : ValueType) → IsType d t → PartIsOf d (IsOf d) (opened y) t → PartIsOf d (IsOf d) x t → bits_of (opened y) ≡ bits_of x → opened y ≡ x
  unfolding base_of lengths_of
  only-layer (Value-F.Number b) (Value-F.Number c) t valid h k e = ap (λ z. Value-F.Number z) e
  only-layer (Value-F.Number b) (Value-F.Member m c) t valid h k e = let q = ap base_of (sym h.0 ∙ k.0) in absurd (cc)
  only-layer (Value-F.Number b) (Value-F.Fields m vs) t valid h k e = let q = ap base_of (sym h.0 ∙ k.0) in absurd (cc)
  only-layer (Value-F.Number b) (Value-F.Items vs) t valid h k e = let q = ap lengths_of (sym h.0 ∙ k.1) in absurd (cc)
  only-layer (Value-F.Member n b) (Value-F.Number c) t valid h k e = let q = ap base_of (sym h.0 ∙ k.0) in absurd (cc)
  only-layer (Value-F.Member n b) (Value-F.Member m c) t valid h k e =
      let q : base.Enum n ≡ base.Enum m = ap base_of (sym h.0 ∙ k.0) in
      let same : n ≡ m = cc in
      ap₂ (λ i z. Value-F.Member i z) same e
  only-layer (Value-F.Member n b) (Value-F.Fields m vs) t valid h k e = let q = ap base_of (sym h.0 ∙ k.0) in absurd (cc)
  only-layer (Value-F.Member n b) (Value-F.Items vs) t valid h k e = let q = ap lengths_of (sym h.0 ∙ k.1) in absurd (cc)
  only-layer (Value-F.Fields n es) (Value-F.Number c) t valid h k e = let q = ap base_of (sym h.0 ∙ k.0) in absurd (cc)
  only-layer (Value-F.Fields n es) (Value-F.Member m c) t valid h k e = let q = ap base_of (sym h.0 ∙ k.0) in absurd (cc)
  only-layer (Value-F.Fields n es) (Value-F.Fields m vs) t valid h k e =
      let same : n ≡ m = same-struct n m (sym h.0 ∙ k.0) in
      let others : Pairwise (IsOf d) vs (map (λ (f : CheckedField). f.of) (fields_of d n)) = subst (λ i. Pairwise (IsOf d) vs (map (λ (f : CheckedField). f.of) (fields_of d i))) (sym same) k.1 in
      ap₂ (λ i ws. Value-F.Fields i ws) same
      (only-down es vs (map (λ (f : CheckedField). f.of) (fields_of d n)) (fields-valid n (subst (IsType d) h.0 valid)) h.1 others e)
  only-layer (Value-F.Fields n es) (Value-F.Items vs) t valid h k e = let q = ap lengths_of (sym h.0 ∙ k.1) in absurd (cc)
  only-layer (Value-F.Items es) (Value-F.Number c) t valid h k e = let q = ap lengths_of (sym h.1 ∙ k.0) in absurd (cc)
  only-layer (Value-F.Items es) (Value-F.Member m c) t valid h k e = let q = ap lengths_of (sym h.1 ∙ k.0) in absurd (cc)
  only-layer (Value-F.Items es) (Value-F.Fields m vs) t valid h k e = let q = ap lengths_of (sym h.1 ∙ k.0) in absurd (cc)
  only-layer (Value-F.Items es) (Value-F.Items vs) t valid h k e =
      let n : ℕ = length (values es) in
      let item : ValueType = h.0 in
      let both = sym h.1 ∙ k.1 in
      let q : n ∷ item.lengths ≡ length vs ∷ k.0.lengths = ap lengths_of both in
      let count : n ≡ length vs = cc in
      let bases : item.base ≡ k.0.base = ap base_of both in
      let rest : item.lengths ≡ k.0.lengths = cc in
      let same : item ≡ k.0 = ap₂ (λ b ls. record { base = b; lengths = ls }) bases rest in
      let others : Pairwise (IsOf d) vs (replicate n item) = subst (λ (u : ValueType). Pairwise (IsOf d) vs (replicate n u)) (sym same) (subst (λ c. Pairwise (IsOf d) vs (replicate c k.0)) (sym count) k.2) in
      let ok = item-type d is n (width_of d item) (subst (λ w. (1 ≤ w) × (w ≤ 128)) (sym (array-width d n item)) (subst (IsType d) h.1 valid)) in
      ap (λ ws. Value-F.Items ws) (only-up es vs (replicate n item) (same_types d is n item ok) h.2 others e)

  only : (v w : Value) (t : ValueType) → IsType d t → IsOf d v t → IsOf d w t → packed v ≡ packed w → v ≡ w
  only = ind-Value IsOnly (λ x y same. subst (λ z. IsOnly (roll-Value z)) same (λ w t valid of of' e.
      let bits_are = sym (packed-roll (opened y)) ∙ e ∙ ap packed (sym (roll-out-Value w)) ∙ packed-roll (out-Value w) in
      ap roll-Value (only-layer y (out-Value w) t valid (open-IsOf d (roll-Value (opened y)) (opened y) refl t of) (open-IsOf d w (out-Value w) (roll-out-Value w) t of') bits_are) ∙ roll-out-Value w))

  -- packing is undone
  pub packed-unpacked : (t : ValueType) (v : Value) → IsType d t → IsOf d v t → HasWidth (packed v) (width_of d t) × (unpacked d t (packed v) ≡ v)
  packed-unpacked t v valid of =
      let h = wide v t valid of in
      let again = unpacked-stands d is t (packed v) valid h in
      (h, only (unpacked d t (packed v)) v t valid again.0 of again.1)
