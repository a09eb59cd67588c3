-- How many bits a value is packed into.
use Rattle.std.proofs.Common.{◌≡◌, ℕ, ◌+◌, ◌≤◌, min, List, [], ◌∷◌, All, Some, map, replicate, length, sum_by, slice_get, refl, ap, ap₂, sym, subst, ◌∙◌, arith}
use Rattle.std.proofs.Math.Nat.{add_comm, mul_comm}
use Rattle.std.proofs.lemmas.List.{get_or-map}
use Rattle.std.proofs.lemmas.List.Elements.{All-head, All-map, All-replicate, All-tail}
use Rattle.std.proofs.lemmas.List.Folds.{sum_by-replicate}
use Rattle.std.proofs.lemmas.List.Sums.{sum_by-cons}
use Rattle.std.proofs.lemmas.Option.{get_or_from_slice_get, slice_get_within}
use Rattle.kw_bits.specs.BitVector.{BitVector}
use Rattle.kw_bits.specs.Operators.{concat}
use Rattle.koika_types.specs.Types.{IsTable, IsType, IsTypeAmong, total_width, width}
use Rattle.koika_types.specs.Values.{IsOf, Pairwise, PartIsOf, field_types, packed, packed_part, stacked, stacked_up}
use Rattle.koika_types.specs.declared.ty.Ty.{Ty}
use Rattle.koika_types.specs.declared.ty.Ty.TheVariants as ty
use Rattle.koika_types.specs.declared.declarations.Field.{Field}
use Rattle.koika_types.specs.declared.declarations.StructDecl.{StructDecl}
use Rattle.koika_types.specs.declared.declarations.Declarations.{Declarations}
use Rattle.koika_types.specs.declared.value.Value.{Value}
use Rattle.koika_types.specs.declared.value.Value.TheOpen.{Value-F}
use Rattle.koika_types.specs.declared.value.Value.TheFolds.{ind-Value, map-Value}
use Rattle.koika_types.specs.declared.value.Value.TheViews.{roll-Value}
use Rattle.koika_types.proofs.Layers.{open-IsOf, packed-roll}
use Rattle.koika_types.proofs.Stacks.{IsSized, concat-IsSized}

-- a type that is valid among some structs is so among more
pub IsType-more : (d : Declarations) (k m : ℕ) → k ≤ m → (t : Ty) → IsTypeAmong d k t → IsTypeAmong d m t
IsType-more d k m le (ty.Bits w) h = h
IsType-more d k m le (ty.Enum n) h = h
IsType-more d k m le (ty.Struct n) h = let lt = h.0 in (omega arith, h.1)
IsType-more d k m le (ty.Array' p item n) h = (IsType-more d k m le item h.0, h.1, h.2, h.3)

pub sum_by-map : {X Y : Type 0} (f : Y → ℕ) (g : X → Y) (xs : List X) → sum_by f (map g xs) ≡ sum_by (λ x. f (g x)) xs
sum_by-map f g [] = refl
sum_by-map f g (x ∷ xs) = sum_by-cons f (g x) (map g xs) ∙ ap (λ n. f (g x) + n) (sum_by-map f g xs) ∙ sym (sum_by-cons (λ y. f (g y)) x xs)

-- the types that a type is made of are valid, and as wide together as the type
pub parts_of_struct : (d : Declarations) → IsTable d → (n : ℕ) (decl : StructDecl) → slice_get d.structs n ≡ Some decl → IsType d (ty.Struct n) → All (IsType d) (field_types decl) × (sum_by (width d) (field_types decl) ≡ width d (ty.Struct n))
parts_of_struct d table n decl is valid =
    let s = table.structs n decl is in
    let within = slice_get_within d.structs n decl is in
    let kept : width d (ty.Struct n) ≡ decl.width =
    get_or-map (λ (other : StructDecl). other.width) d.structs n decl 0 within ∙ ap (λ (other : StructDecl). other.width) (get_or_from_slice_get d.structs n decl decl is) in
    let total : sum_by (width d) (field_types decl) ≡ total_width d decl.fields = sum_by-map (width d) (λ (field : Field). field.ty) decl.fields in
    let capped : decl.width ≡ min (total_width d decl.fields) 129 = s.width in
    let most : width d (ty.Struct n) ≤ 128 = valid.1.1 in
    (All-map (IsType d) (λ (field : Field). field.ty) decl.fields (λ i x lt. IsType-more d n (length d.structs) (omega arith) _ (s.fields i x lt)), omega arith)

pub parts_of_array : (d : Declarations) (p : _) (item : Ty) (n : ℕ) → IsType d (ty.Array' p item n) → All (IsType d) (replicate n item) × (sum_by (width d) (replicate n item) ≡ width d (ty.Array' p item n))
parts_of_array d p item n valid = (All-replicate (IsType d) n item valid.0, sum_by-replicate (width d) n item ∙ mul_comm n (width d item))

-- the bit vector has this width, and its number fits
abbrev pub HasSize : BitVector → ℕ → Type 0
HasSize b w = (b.width ≡ w) × IsSized b

pub joined_width : (a b : BitVector) → (concat a b).width ≡ a.width + b.width
unfolding concat
joined_width a b = refl

module _ (d : Declarations) where
  abbrev pub PackedSize : Value → Ty → Type 0
  PackedSize v t = HasSize (packed v) (width d t)

  pub stacked-HasSize : (vs : List Value) (types : List Ty) → Pairwise PackedSize vs types → HasSize (stacked (map packed vs)) (sum_by (width d) types)
  stacked-HasSize [] [] h = (refl, omega arith)
  stacked-HasSize [] (t ∷ types) h = absurd h
  stacked-HasSize (v ∷ vs) [] h = absurd h
  stacked-HasSize (v ∷ vs) (t ∷ types) h =
      let rest = stacked-HasSize vs types h.1 in
      (joined_width (packed v) (stacked (map packed vs)) ∙ ap₂ (λ a b. a + b) h.0.0 rest.0 ∙ sym (sum_by-cons (width d) t types), concat-IsSized (packed v) (stacked (map packed vs)) h.0.1 rest.1)

  pub stacked_up-HasSize : (vs : List Value) (types : List Ty) → Pairwise PackedSize vs types → HasSize (stacked_up (map packed vs)) (sum_by (width d) types)
  stacked_up-HasSize [] [] h = (refl, omega arith)
  stacked_up-HasSize [] (t ∷ types) h = absurd h
  stacked_up-HasSize (v ∷ vs) [] h = absurd h
  stacked_up-HasSize (v ∷ vs) (t ∷ types) h =
      let rest = stacked_up-HasSize vs types h.1 in
      (joined_width (stacked_up (map packed vs)) (packed v) ∙ ap₂ (λ a b. b + a) h.0.0 rest.0 ∙ add_comm (sum_by (width d) types) (width d t) ∙ sym (sum_by-cons (width d) t types), concat-IsSized (stacked_up (map packed vs)) (packed v) rest.1 h.0.1)

  module _ (table : IsTable d) where
    abbrev Packs : Value → Type 0
    Packs v = (t : Ty) → IsType d t → IsOf d v t → PackedSize v t

    sized_parts : (es : List ((v : Value) × Packs v)) (types : List Ty) → All (IsType d) types → Pairwise (IsOf d) (map (λ e. e.0) es) types → Pairwise PackedSize (map (λ e. e.0) es) types
    sized_parts [] [] valid h = tt
    sized_parts [] (t ∷ types) valid h = absurd h
    sized_parts (e ∷ es) [] valid h = absurd h
    sized_parts (e ∷ es) (t ∷ types) valid h = (e.1 t (All-head (IsType d) t types valid) h.0, sized_parts es types (All-tail (IsType d) t types valid) h.1)

    part_size : (y : Value-F ((v : Value) × Packs v)) (t : Ty) → IsType d t → PartIsOf d (IsOf d) (map-Value ((v : Value) × Packs v) Value (λ e. e.0) y) t →
        HasSize (packed_part (map-Value Value BitVector packed (map-Value ((v : Value) × Packs v) Value (λ e. e.0) y))) (width d t)
    part_size (Value-F.Number b) (ty.Bits w) valid h = (h.1, h.0.in_range)
    part_size (Value-F.Member m b) (ty.Enum n) valid h = (h.1.1 ∙ ap (λ k. width d (ty.Enum k)) h.0, h.1.0.in_range)
    part_size (Value-F.Fields m es) (ty.Struct n) valid h =
        let is : slice_get d.structs n ≡ Some h.1.0 = ap (λ k. slice_get d.structs k) (sym h.0) ∙ h.1.1 in
        let parts = parts_of_struct d table n h.1.0 is valid in
        let size = stacked-HasSize (map (λ e. e.0) es) (field_types h.1.0) (sized_parts es (field_types h.1.0) parts.0 h.1.2) in
        (size.0 ∙ parts.1, size.1)
    part_size (Value-F.Items es) (ty.Array' p item n) valid h =
        let parts = parts_of_array d p item n valid in
        let size = stacked_up-HasSize (map (λ e. e.0) es) (replicate n item) (sized_parts es (replicate n item) parts.0 h) in
        (size.0 ∙ parts.1, size.1)
    part_size y t valid h = absurd h

    -- a value of a valid type is packed into as many bits as the type has
    pub packed-HasSize : (v : Value) (t : Ty) → IsType d t → IsOf d v t → PackedSize v t
    packed-HasSize = ind-Value Packs (λ x y is.
        let layer = map-Value ((v : Value) × Packs v) Value (λ e. e.0) y in
        subst (λ z. Packs (roll-Value z)) is (λ t valid of. subst (λ b. HasSize b (width d t)) (sym (packed-roll layer)) (part_size y t valid (open-IsOf d layer t of))))
