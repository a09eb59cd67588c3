-- The conditions that constants and expressions share: members of enums, fields of structs, items of arrays.
use Rattle.std.specs.Prelude.{ℕ, map, List, [], ◌∷◌, length, Option, Some, None, slice_get, if◌then◌else◌}
use Rattle.std.specs.Str.{bytes_eq}
use Rattle.kw_base.specs.Names.{number_of}
use Rattle.kw_base.specs.declared.fault_number.TheConstants.{UNKNOWN_NAME, WRONG_TYPE, WRONG_WIDTH, WRONG_FIELD}
use Rattle.kw_bits.specs.BitVector.{BitVector}
use Rattle.koika_syntax.specs.declared.tree.Name.{Name}
use Rattle.koika_types.specs.declared.declarations.EnumDecl.{EnumDecl}
use Rattle.koika_types.specs.declared.declarations.Member.{Member}
use Rattle.koika_check.specs.Outcomes.{CheckResult, ◌>>=◌, Gives, Condition, holds, first, where_all, found, wrong}
use Rattle.koika_check.specs.Types.{TypedPart, agrees, array, base_width, each, is_value, is_width, of_base, part, width_of}
use Rattle.koika_check.specs.declared.checked.Checked.{Checked}
use Rattle.koika_check.specs.declared.checked.CheckedField.{CheckedField}
use Rattle.koika_check.specs.declared.checked.Struct.{Struct}
use Rattle.koika_check.specs.declared.typed.BaseType.TheVariants as base
use Rattle.koika_check.specs.declared.typed.ValueType.{ValueType}
use Rattle.koika_check.specs.Kinds.{number_named}
use Rattle.koika_check.specs.declared.things.Kind.TheVariants as kind

-- ---- members

-- the members of an enum, if there is one
abbrev pub members_by : Option EnumDecl → List Member
members_by None = []
members_by (Some e) = e.members

-- the members of the enum of a number
abbrev pub members_of : Checked → ℕ → List Member
members_of d number = members_by (slice_get d.enums number)

-- the bits of the member at an index
abbrev pub bits_by_place : List Member → Option ℕ → Option BitVector
bits_by_place members None = None
bits_by_place members (Some place) = bits_by_member (slice_get members place)
  where
    bits_by_member : Option Member → Option BitVector
    bits_by_member None = None
    bits_by_member (Some member) = Some member.bits

-- the bits of the member of this name
abbrev pub member_named : List Member → List ℕ → Option BitVector
member_named members name = bits_by_place members (number_of (map (λ (m : Member). m.name) members) name)

-- a member of an enum: its enum's number and its bits
pub record MemberOf : Type 0 where
  pub number : ℕ
  pub bits : BitVector

-- `E::M`: an enum (20) with that member (24)
abbrev pub member : Checked → (of member : Name) → CheckResult MemberOf
member d of m = found (number_named kind.Enum d of.text) (wrong UNKNOWN_NAME of.place) >>= λ number.
    found (member_named (members_of d number) m.text) (wrong WRONG_FIELD m.place) >>= λ bits.
    Gives (record { number = number; bits = bits })

-- ---- structs

-- the fields of a struct, if there is one
abbrev pub fields_by : Option Struct → List CheckedField
fields_by None = []
fields_by (Some s) = s.fields

-- the fields of the struct of a number
abbrev pub fields_of : Checked → ℕ → List CheckedField
fields_of d number = fields_by (slice_get d.structs number)

-- the number of the field of this name, and its type
abbrev pub field_named : List CheckedField → List ℕ → Option ℕ
field_named fields = number_of (map (λ (f : CheckedField). f.name) fields)

-- the type of the field at an index
abbrev pub type_at : List CheckedField → Option ℕ → Option ValueType
type_at fields None = None
type_at fields (Some number) = type_by_field (slice_get fields number)
  where
    type_by_field : Option CheckedField → Option ValueType
    type_by_field None = None
    type_by_field (Some field) = Some field.of

-- a field that is given: its name and its value
pub record Given : Type 0 where
  pub name : Name
  pub part : TypedPart

-- the names are the declared ones in their order: 24 at the first other name, or at the closing bracket where one is missing
abbrev pub names_are : List CheckedField → List Given → (close : ℕ) → Condition
names_are [] [] close = None
names_are [] (g ∷ given) close = Some (wrong WRONG_FIELD g.name.place)
names_are (f ∷ fields) [] close = Some (wrong WRONG_FIELD close)
names_are (f ∷ fields) (g ∷ given) close = if bytes_eq f.name g.name.text then names_are fields given close else Some (wrong WRONG_FIELD g.name.place)

-- a value agrees with the type of the field of its name, if there is one
abbrev pub agrees_if : Option ValueType → TypedPart → Condition
agrees_if None part = None
agrees_if (Some of) part = agrees (Some of) part

-- a given field has the type of the struct's field of its name
abbrev pub fits_field : List CheckedField → Given → Condition
fits_field fields g = agrees_if (type_at fields (field_named fields g.name.text)) g.part

-- `S::{..}` of a declared struct: exactly its fields in declared order (24); each agrees; the total width 1 to 128 (23)
abbrev pub struct_of : Checked → ℕ → (place : ℕ) → List Given → (close : ℕ) → CheckResult TypedPart
struct_of d number place given close =
    where_all
    (names_are (fields_of d number) given close
    ∷ each (fits_field (fields_of d number)) given
    ∷ holds (is_width (base_width d (base.Struct number))) (wrong WRONG_WIDTH place)
    ∷ [])
    (part (Some (of_base (base.Struct number))) place)

-- ---- arrays

-- `[e, ..]`: none is unit (22); all agree with the first; the total width 1 to 128 (23). There is a first (22).
abbrev pub array_by : Checked → (place : ℕ) → Option ValueType → List TypedPart → CheckResult TypedPart
array_by d place None parts = where_all (each is_value parts ∷ Some (wrong WRONG_TYPE place) ∷ []) (part None place)
array_by d place (Some item) parts =
    where_all
    (each is_value parts
    ∷ each (agrees (Some item)) parts
    ∷ holds (is_width (width_of d (array (length parts) item))) (wrong WRONG_WIDTH place)
    ∷ [])
    (part (Some (array (length parts) item)) place)

-- the type of the first of some parts
abbrev pub type_of_first : List TypedPart → Option ValueType
type_of_first [] = None
type_of_first (first ∷ rest) = first.of

-- the type of an array of these parts, which are all of the first one's type
abbrev pub array_of : Checked → (place : ℕ) → List TypedPart → CheckResult TypedPart
array_of d place parts = array_by d place (type_of_first parts) parts
