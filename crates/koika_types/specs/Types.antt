-- The types of the source language: which are valid in a table of declared enums and structs, and how wide their values
-- are. They are the packed types of IEEE 1800-2017 (7.2.1, 7.4.1) with 1 to 128 bits: bit vectors, enums of a stated
-- width, structs and arrays. A struct may name only structs that are declared before it.
use Rattle.std.specs.Prelude.{◌≡◌, ℕ, ◌*◌, ◌<◌, ◌≤◌, min, List, [], All, length, map, sum_by, slice_get, slice_index, Option, Some, None}
use Rattle.kw_bits.specs.Laws as vector
use Rattle.koika_types.specs.declared.ty.Ty.{Ty, Bits, Enum, Struct, Array'}
use Rattle.koika_types.specs.declared.declarations.Member.{Member}
use Rattle.koika_types.specs.declared.declarations.EnumDecl.{EnumDecl}
use Rattle.koika_types.specs.declared.declarations.Field.{Field}
use Rattle.koika_types.specs.declared.declarations.StructDecl.{StructDecl}
use Rattle.koika_types.specs.declared.declarations.Declarations.{Declarations}

-- the types are of one form, with the same numbers
abbrev pub SameTy : Ty → Ty → Type 0
SameTy (Bits width) (Bits width') = width ≡ width'
SameTy (Enum number) (Enum number') = number ≡ number'
SameTy (Struct number) (Struct number') = number ≡ number'
SameTy (Array' p item length) (Array' p' item' length') = SameTy item item' × (length ≡ length')
SameTy a b = ⊥

-- a width of values
abbrev pub IsWidth : ℕ → Type 0
IsWidth width = (1 ≤ width) × (width ≤ 128)

-- how many bits a value of the type has: an array as many as its items together, a struct what the table says
abbrev pub width : Declarations → Ty → ℕ
width d (Bits w) = w
width d (Enum number) = slice_index (map (λ (decl : EnumDecl). decl.width) d.enums) number
width d (Struct number) = slice_index (map (λ (decl : StructDecl). decl.width) d.structs) number
width d (Array' p item length) = width d item * length

-- the widths of the fields together
abbrev pub total_width : Declarations → List Field → ℕ
total_width d = sum_by (λ (field : Field). width d field.ty)

-- The type is valid where only this many structs, the first ones, may be named: it has 1 to 128 bits, and so has each
-- type in it.
abbrev pub IsTypeAmong : Declarations → ℕ → Ty → Type 0
IsTypeAmong d structs (Bits w) = IsWidth w
IsTypeAmong d structs (Enum number) = number < length d.enums
IsTypeAmong d structs (Struct number) = (number < structs) × IsWidth (width d (Struct number))
IsTypeAmong d structs (Array' p item length) = IsTypeAmong d structs item × (1 ≤ length) × (length ≤ 128) × (width d item * length ≤ 128)

-- the type is valid
abbrev pub IsType : Declarations → Ty → Type 0
IsType d = IsTypeAmong d (length d.structs)

-- the fields are of valid types
abbrev pub AreTypes : Declarations → List Field → Type 0
AreTypes d fields = All (λ (field : Field). IsType d field.ty) fields

-- the member's bits are a bit vector of this width
abbrev pub IsMember : ℕ → Member → Type 0
IsMember width member = vector.HasWidth member.bits width

-- an enum has 1 to 128 bits, and its members are bit vectors of that width
abbrev pub IsEnum : EnumDecl → Type 0
IsEnum decl = IsWidth decl.width × All (IsMember decl.width) decl.members

-- The struct of this number has fields of types that are valid before it, and its width is that of the fields together,
-- where 129 stands for more than 128.
pub record IsStruct (d : Declarations) (number : ℕ) (decl : StructDecl) : Type 0 where
  pub fields : All (λ (field : Field). IsTypeAmong d number field.ty) decl.fields
  pub width : decl.width ≡ min (total_width d decl.fields) 129

-- the declarations are those of a table
pub record IsTable (d : Declarations) : Type 0 where
  pub enums : All IsEnum d.enums
  pub structs : (number : ℕ) (decl : StructDecl) → slice_get d.structs number ≡ Some decl → IsStruct d number decl

-- the struct of this name with these fields
abbrev pub struct_of : Declarations → List ℕ → List Field → StructDecl
struct_of d name fields = record { name = name; fields = fields; width = min (total_width d fields) 129 }

-- the answer is a width of this kind, or there is none
abbrev pub Finds : (ℕ → Type 0) → Option ℕ → Type 0
Finds P None = (width : ℕ) → P width → ⊥
Finds P (Some width) = P width

-- the fields of the struct of this number, none where there is no such struct
abbrev pub fields_found : Option StructDecl → List Field
fields_found None = []
fields_found (Some decl) = decl.fields

abbrev pub fields_of : Declarations → ℕ → List Field
fields_of d number = fields_found (slice_get d.structs number)
