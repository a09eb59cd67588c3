-- Values and the facts on them, opened one layer.
use Rattle.std.proofs.Common.{◌≡◌, ℕ, List, [], ◌∷◌, map, replicate, Some, slice_get, refl, ap, sym, subst, ◌∙◌}
use Rattle.kw_bits.specs.BitVector.{BitVector}
use Rattle.kw_bits.specs.Laws as vector
use Rattle.koika_types.specs.Types.{width}
use Rattle.koika_types.specs.Values.{AreFields, IsOf, Pairwise, PartIsOf, field_types, packed, packed_part, stacked, stacked_up}
use Rattle.koika_types.specs.declared.ty.Ty.{Ty}
use Rattle.koika_types.specs.declared.ty.Ty.TheVariants as ty
use Rattle.koika_types.specs.declared.declarations.StructDecl.{StructDecl}
use Rattle.koika_types.specs.declared.declarations.Declarations.{Declarations}
use Rattle.koika_types.specs.declared.value.Value.{Value}
use Rattle.koika_types.specs.declared.value.Value.TheVariants as value
use Rattle.koika_types.specs.declared.value.Value.TheOpen.{Value-F}
use Rattle.koika_types.specs.declared.value.Value.TheFolds.{fold-roll-Value, map-Value, rec-roll-Value}
use Rattle.koika_types.specs.declared.value.Value.TheViews.{roll-Value}

Pairwise-map : {X Y : Type 0} (is : Y → Ty → Type 0) (f : X → Y) (xs : List X) (types : List Ty) → Pairwise (λ x. is (f x)) xs types ≡ Pairwise is (map f xs) types
Pairwise-map is f [] [] = refl
Pairwise-map is f [] (t ∷ types) = refl
Pairwise-map is f (x ∷ xs) [] = refl
Pairwise-map is f (x ∷ xs) (t ∷ types) = ap (λ rest. is (f x) t × rest) (Pairwise-map is f xs types)

PartIsOf-map : (d : Declarations) {X Y : Type 0} (is : Y → Ty → Type 0) (f : X → Y) (x : Value-F X) (t : Ty) → PartIsOf d (λ p. is (f p)) x t ≡ PartIsOf d is (map-Value X Y f x) t
PartIsOf-map d is f (Value-F.Number b) (ty.Bits w) = refl
PartIsOf-map d is f (Value-F.Member e b) (ty.Enum n) = refl
PartIsOf-map d is f (Value-F.Fields n xs) (ty.Struct m) = λ i. (n ≡ m) × ((decl : StructDecl) × (slice_get d.structs n ≡ Some decl) × Pairwise-map is f xs (field_types decl) i)
PartIsOf-map d is f (Value-F.Items xs) (ty.Array' p item n) = Pairwise-map is f xs (replicate n item)
PartIsOf-map d is f x t = refl

module _ (d : Declarations) where
  opened : (x : Value-F Value) → IsOf d (roll-Value x) ≡ PartIsOf d (IsOf d) x
  opened x = rec-roll-Value (Ty → Type 0) (λ X whole is. PartIsOf d is) (λ X v k y i t. PartIsOf-map d k v y t i) x

  pub open-IsOf : (x : Value-F Value) (t : Ty) → IsOf d (roll-Value x) t → PartIsOf d (IsOf d) x t
  open-IsOf x t h = subst (λ (is : Ty → Type 0). is t) (opened x) h

  pub close-IsOf : (x : Value-F Value) (t : Ty) → PartIsOf d (IsOf d) x t → IsOf d (roll-Value x) t
  close-IsOf x t h = subst (λ (is : Ty → Type 0). is t) (sym (opened x)) h

pub packed-roll : (x : Value-F Value) → packed (roll-Value x) ≡ packed_part (map-Value Value BitVector packed x)
packed-roll x = fold-roll-Value BitVector packed_part x

-- what the layers of a type's values are
module _ (d : Declarations) {X : Type 0} (is : X → Ty → Type 0) where
  pub of_Bits : (w : ℕ) (x : Value-F X) → PartIsOf d is x (ty.Bits w) → (b : BitVector) × (x ≡ Value-F.Number b) × vector.HasWidth b w
  of_Bits w (Value-F.Number b) h = (b, refl, h)
  of_Bits w x h = absurd h

  pub of_Enum : (n : ℕ) (x : Value-F X) → PartIsOf d is x (ty.Enum n) → (b : BitVector) × (x ≡ Value-F.Member n b) × vector.HasWidth b (width d (ty.Enum n))
  of_Enum n (Value-F.Member m b) h = (b, ap (λ k. Value-F.Member k b) h.0, subst (λ k. vector.HasWidth b (width d (ty.Enum k))) h.0 h.1)
  of_Enum n x h = absurd h

  pub of_Struct : (n : ℕ) (x : Value-F X) → PartIsOf d is x (ty.Struct n) → (xs : List X) × (x ≡ Value-F.Fields n xs) × ((decl : StructDecl) × (slice_get d.structs n ≡ Some decl) × Pairwise is xs (field_types decl))
  of_Struct n (Value-F.Fields m xs) h = (xs, ap (λ k. Value-F.Fields k xs) h.0, subst (λ k. (decl : StructDecl) × (slice_get d.structs k ≡ Some decl) × Pairwise is xs (field_types decl)) h.0 h.1)
  of_Struct n x h = absurd h

  pub of_Array : (p : _) (item : Ty) (n : ℕ) (x : Value-F X) → PartIsOf d is x (ty.Array' p item n) → (xs : List X) × (x ≡ Value-F.Items xs) × Pairwise is xs (replicate n item)
  of_Array p item n (Value-F.Items xs) h = (xs, refl, h)
  of_Array p item n x h = absurd h

-- the variants
module _ (d : Declarations) where
  pub of-Number : (b : BitVector) (w : ℕ) → vector.HasWidth b w → IsOf d (value.Number b) (ty.Bits w)
  of-Number b w h = subst (λ (v : Value). IsOf d v (ty.Bits w)) (value.rolls-Number b) (close-IsOf d (Value-F.Number b) (ty.Bits w) h)

  pub of-Member : (n : ℕ) (b : BitVector) → vector.HasWidth b (width d (ty.Enum n)) → IsOf d (value.Member n b) (ty.Enum n)
  of-Member n b h = subst (λ (v : Value). IsOf d v (ty.Enum n)) (value.rolls-Member n b) (close-IsOf d (Value-F.Member n b) (ty.Enum n) (refl, h))

  pub of-Fields : (n : ℕ) (vs : List Value) → AreFields d (IsOf d) n vs → IsOf d (value.Fields n vs) (ty.Struct n)
  of-Fields n vs h = subst (λ (v : Value). IsOf d v (ty.Struct n)) (value.rolls-Fields n vs) (close-IsOf d (Value-F.Fields n vs) (ty.Struct n) (refl, h))

  pub of-Items : (p : _) (item : Ty) (n : ℕ) (vs : List Value) → Pairwise (IsOf d) vs (replicate n item) → IsOf d (value.Items vs) (ty.Array' p item n)
  of-Items p item n vs h = subst (λ (v : Value). IsOf d v (ty.Array' p item n)) (value.rolls-Items vs) (close-IsOf d (Value-F.Items vs) (ty.Array' p item n) h)

pub packed-Number : (b : BitVector) → packed (value.Number b) ≡ b
packed-Number b = ap packed (sym (value.rolls-Number b)) ∙ packed-roll (Value-F.Number b)

pub packed-Member : (n : ℕ) (b : BitVector) → packed (value.Member n b) ≡ b
packed-Member n b = ap packed (sym (value.rolls-Member n b)) ∙ packed-roll (Value-F.Member n b)

pub packed-Fields : (n : ℕ) (vs : List Value) → packed (value.Fields n vs) ≡ stacked (map packed vs)
packed-Fields n vs = ap packed (sym (value.rolls-Fields n vs)) ∙ packed-roll (Value-F.Fields n vs)

pub packed-Items : (vs : List Value) → packed (value.Items vs) ≡ stacked_up (map packed vs)
packed-Items vs = ap packed (sym (value.rolls-Items vs)) ∙ packed-roll (Value-F.Items vs)
