-- The values of a type, and the bits that they are packed into, as IEEE 1800-2017 packs structs (7.2.1: the first
-- member is the most significant) and arrays declared from the highest index down (7.4.1: item 0 is the least
-- significant). A value of an enum may be any number of the enum's width.
use Rattle.std.specs.Prelude.{◌≡◌, ℕ, List, [], ◌∷◌, map, replicate, slice_get, Some}
use Rattle.kw_bits.specs.BitVector.{BitVector}
use Rattle.kw_bits.specs.Laws as vector
use Rattle.kw_bits.specs.Operators as op
use Rattle.koika_types.specs.Types.{width}
use Rattle.koika_types.specs.declared.ty.Ty.{Ty, Bits, Enum, Struct, Array'}
use Rattle.koika_types.specs.declared.declarations.Field.{Field}
use Rattle.koika_types.specs.declared.declarations.StructDecl.{StructDecl}
use Rattle.koika_types.specs.declared.declarations.Declarations.{Declarations}
use Rattle.koika_types.specs.declared.value.Value.{Value}
use Rattle.koika_types.specs.declared.value.Value.TheOpen.{Value-F}
use Rattle.koika_types.specs.declared.value.Value.TheFolds.{fold-Value, rec-Value}

-- these are values of these types, one by one
abbrev pub Pairwise : {X : Type 0} → (X → Ty → Type 0) → List X → List Ty → Type 0
Pairwise is [] [] = Unit {0}
Pairwise is (value ∷ values) (ty ∷ types) = is value ty × Pairwise is values types
Pairwise is values types = ⊥

-- the types of a struct's fields
abbrev pub field_types : StructDecl → List Ty
field_types decl = map (λ (field : Field). field.ty) decl.fields

-- these are the fields' values of the struct of this number, where `is` says which parts are of which types
abbrev pub AreFields : Declarations → {X : Type 0} → (X → Ty → Type 0) → ℕ → List X → Type 0
AreFields d is number values = (decl : StructDecl) × (slice_get d.structs number ≡ Some decl) × Pairwise is values (field_types decl)

-- the outermost part of a value is of the type, where `is` says which of its parts are of which types
abbrev pub PartIsOf : Declarations → {X : Type 0} → (X → Ty → Type 0) → Value-F X → Ty → Type 0
PartIsOf d is (Value-F.Number bits) (Bits w) = vector.HasWidth bits w
PartIsOf d is (Value-F.Member number bits) (Enum number') = (number ≡ number') × vector.HasWidth bits (width d (Enum number))
PartIsOf d is (Value-F.Fields number values) (Struct number') = (number ≡ number') × AreFields d is number values
PartIsOf d is (Value-F.Items values) (Array' p item length) = Pairwise is values (replicate length item)
PartIsOf d is layer ty = ⊥

-- the value is of the type
abbrev pub IsOf : Declarations → Value → Ty → Type 0
IsOf d = rec-Value (Ty → Type 0) (λ X whole is. PartIsOf d is)

-- no bits
abbrev pub nothing : BitVector
nothing = record { width = 0; number = 0 }

-- the bit vectors one below the other, the first the most significant
abbrev pub stacked : List BitVector → BitVector
stacked [] = nothing
stacked (part ∷ parts) = op.concat part (stacked parts)

-- the bit vectors one above the other, the first the least significant
abbrev pub stacked_up : List BitVector → BitVector
stacked_up [] = nothing
stacked_up (part ∷ parts) = op.concat (stacked_up parts) part

-- the bits of the outermost part of a value, from those of its parts
abbrev pub packed_part : Value-F BitVector → BitVector
packed_part (Value-F.Number bits) = bits
packed_part (Value-F.Member number bits) = bits
packed_part (Value-F.Fields number parts) = stacked parts
packed_part (Value-F.Items parts) = stacked_up parts

-- the bits of a value
abbrev pub packed : Value → BitVector
packed = fold-Value BitVector packed_part
