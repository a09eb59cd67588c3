-- No two values of a valid type are packed into the same bits.
use Rattle.std.proofs.Common.{◌≡◌, List, [], ◌∷◌, All, map, replicate, Option, Some, None, Result, Ok, Err, IfOk, slice_get, refl, ap, ap₂, sym, subst, ◌∙◌}
use Rattle.std.proofs.lemmas.List.Elements.{All-head, All-tail}
use Rattle.kw_bits.specs.BitVector.{BitVector}
use Rattle.koika_types.specs.Types.{IsTable, IsType}
use Rattle.koika_types.specs.Values.{IsOf, Pairwise, PartIsOf, field_types, packed, packed_part, stacked, stacked_up}
use Rattle.koika_types.specs.declared.ty.Ty.{Ty}
use Rattle.koika_types.specs.declared.ty.Ty.TheVariants as ty
use Rattle.koika_types.specs.declared.declarations.StructDecl.{StructDecl}
use Rattle.koika_types.specs.declared.declarations.Declarations.{Declarations}
use Rattle.koika_types.specs.declared.value.Value.{Value, roll-out-Value}
use Rattle.koika_types.specs.declared.value.Value.TheOpen.{Value-F}
use Rattle.koika_types.specs.declared.value.Value.TheFolds.{ind-Value, map-Value}
use Rattle.koika_types.specs.declared.value.Value.TheViews.{out-Value, roll-Value}
use Rattle.koika_types.proofs.Layers.{of_Array, of_Bits, of_Enum, of_Struct, open-IsOf, packed-roll}
use Rattle.koika_types.proofs.Parts.{sized}
use Rattle.koika_types.proofs.Sizes.{packed-HasSize, parts_of_array, parts_of_struct, stacked-HasSize}
use Rattle.koika_types.proofs.Stacks.{concat-parts}

held : {X : Type 0} → Option X → X → X
held None x = x
held (Some y) x = y

same_held : {X : Type 0} (x y : X) → Some x ≡ Some y → x ≡ y
unfolding held
same_held x y e = ap (λ o. held o x) e

module _ (d : Declarations) (table : IsTable d) where
  abbrev IsOnly : Value → Type 0
  IsOnly v = (w : Value) (t : Ty) → IsType d t → IsOf d v t → IsOf d w t → packed v ≡ packed w → v ≡ w

  abbrev Part : Type 0
  Part = (v : Value) × IsOnly v

  abbrev values : List Part → List Value
  values = map (λ e. e.0)

  unique-down : (es : List Part) (vs : List Value) (types : List Ty) → All (IsType d) types → Pairwise (IsOf d) (values es) types → Pairwise (IsOf d) vs types →
      stacked (map packed (values es)) ≡ stacked (map packed vs) → values es ≡ vs
  unique-down [] [] [] valid h k e = refl
  unique-down (p ∷ es) (v ∷ vs) (t ∷ types) valid h k e =
      let below = All-tail (IsType d) t types valid in
      let size = stacked-HasSize d (values es) types (sized d table (values es) types below h.1) in
      let size' = stacked-HasSize d vs types (sized d table vs types below k.1) in
      let parts = concat-parts (packed p.0) (stacked (map packed (values es))) (packed v) (stacked (map packed vs)) (size.0 ∙ sym size'.0) size.1 size'.1 e in
      ap₂ (λ x xs. x ∷ xs) (p.1 v t (All-head (IsType d) t types valid) h.0 k.0 parts.0) (unique-down es vs types below h.1 k.1 parts.1)
  unique-down [] vs (t ∷ types) valid h k e = absurd h
  unique-down [] (v ∷ vs) [] valid h k e = absurd k
  unique-down (p ∷ es) vs [] valid h k e = absurd h
  unique-down (p ∷ es) [] (t ∷ types) valid h k e = absurd k

  unique-up : (es : List Part) (vs : List Value) (types : List Ty) → All (IsType d) types → Pairwise (IsOf d) (values es) types → Pairwise (IsOf d) vs types →
      stacked_up (map packed (values es)) ≡ stacked_up (map packed vs) → values es ≡ vs
  unique-up [] [] [] valid h k e = refl
  unique-up (p ∷ es) (v ∷ vs) (t ∷ types) valid h k e =
      let first = All-head (IsType d) t types valid in
      let size = packed-HasSize d table p.0 t first h.0 in
      let size' = packed-HasSize d table v t first k.0 in
      let parts = concat-parts (stacked_up (map packed (values es))) (packed p.0) (stacked_up (map packed vs)) (packed v) (size.0 ∙ sym size'.0) size.1 size'.1 e in
      ap₂ (λ x xs. x ∷ xs) (p.1 v t first h.0 k.0 parts.1) (unique-up es vs types (All-tail (IsType d) t types valid) h.1 k.1 parts.0)
  unique-up [] vs (t ∷ types) valid h k e = absurd h
  unique-up [] (v ∷ vs) [] valid h k e = absurd k
  unique-up (p ∷ es) vs [] valid h k e = absurd h
  unique-up (p ∷ es) [] (t ∷ types) valid h k e = absurd k

  abbrev base : Value-F Part → Value-F Value
  base = map-Value Part Value (λ e. e.0)

  abbrev bits_of : Value-F Value → BitVector
  bits_of x = packed_part (map-Value Value BitVector packed x)

  unique-layer : (y : Value-F Part) (x : Value-F Value) (t : Ty) → IsType d t → PartIsOf d (IsOf d) (base y) t → PartIsOf d (IsOf d) x t → bits_of (base y) ≡ bits_of x → roll-Value (base y) ≡ roll-Value x
  unique-layer (Value-F.Number b) x (ty.Bits w) valid h k e =
      let other = of_Bits d (IsOf d) w x k in
      ap (λ c. roll-Value (Value-F.Number c)) (e ∙ ap bits_of other.1) ∙ ap roll-Value (sym other.1)
  unique-layer (Value-F.Member m b) x (ty.Enum n) valid h k e =
      let other = of_Enum d (IsOf d) n x k in
      ap₂ (λ number c. roll-Value (Value-F.Member number c)) h.0 (e ∙ ap bits_of other.1) ∙ ap roll-Value (sym other.1)
  unique-layer (Value-F.Fields m es) x (ty.Struct n) valid h k e =
      let other = of_Struct d (IsOf d) n x k in
      let is : slice_get d.structs n ≡ Some h.1.0 = ap (λ j. slice_get d.structs j) (sym h.0) ∙ h.1.1 in
      let decl : other.2.0 ≡ h.1.0 = same_held other.2.0 h.1.0 (sym other.2.1 ∙ is) in
      let of = subst (λ (s : StructDecl). Pairwise (IsOf d) other.0 (field_types s)) decl other.2.2 in
      let parts = parts_of_struct d table n h.1.0 is valid in
      let same = unique-down es other.0 (field_types h.1.0) parts.0 h.1.2 of (e ∙ ap bits_of other.1) in
      ap₂ (λ number vs. roll-Value (Value-F.Fields number vs)) h.0 same ∙ ap roll-Value (sym other.1)
  unique-layer (Value-F.Items es) x (ty.Array' p item n) valid h k e =
      let other = of_Array d (IsOf d) p item n x k in
      let parts = parts_of_array d p item n valid in
      let same = unique-up es other.0 (replicate n item) parts.0 h other.2 (e ∙ ap bits_of other.1) in
      ap (λ vs. roll-Value (Value-F.Items vs)) same ∙ ap roll-Value (sym other.1)
  unique-layer y x t valid h k e = absurd h

  pub packed-unique : (v w : Value) (t : Ty) → IsType d t → IsOf d v t → IsOf d w t → packed v ≡ packed w → v ≡ w
  packed-unique = ind-Value IsOnly (λ z y is. subst (λ x. IsOnly (roll-Value x)) is (λ w t valid of of' e.
      let opened = subst (λ x. IsOf d x t) (sym (roll-out-Value w)) of' in
      let same = sym (packed-roll (base y)) ∙ e ∙ ap packed (sym (roll-out-Value w)) ∙ packed-roll (out-Value w) in
      unique-layer y (out-Value w) t valid (open-IsOf d (base y) t of) (open-IsOf d (out-Value w) t opened) same ∙ roll-out-Value w))

-- the value that a call found is the only one
pub found_only : {E : Type 0} (d : Declarations) → IsTable d → (t : Ty) (bits : BitVector) (r : Result Value E) → IsType d t → IfOk r (λ v. IsOf d v t × (packed v ≡ bits)) →
    IfOk r (λ v. (w : Value) → IsOf d w t → packed w ≡ bits → w ≡ v)
found_only d table t bits (Ok v) valid h = λ w of e. packed-unique d table w v t valid of h.0 (e ∙ sym h.1)
found_only d table t bits (Err e) valid h = tt
