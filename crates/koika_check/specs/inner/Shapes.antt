-- The shapes by which the checker compares types in one step: an array's type is known by its number. All of it serves
-- private functions alone.
use Rattle.std.specs.Prelude.{◌≡◌, ℕ, ◌<◌, ◌^◌, ◌⊎◌, ⊤, List, [], ◌∷◌, ◌++◌, length, map, Option, Some, IfSome, option_map, slice_index_or}
use Rattle.std.specs.Int.{to_le_bytes, w32}
use Rattle.koika_check.specs.Types.{TypedPart as TypedPart, array, bits, of_base, part}
use Rattle.koika_check.specs.declared.agreement.Part.{Part}
use Rattle.koika_check.specs.declared.shapes.ArrayShape.{ArrayShape}
use Rattle.koika_check.specs.declared.shapes.Shape.{Shape}
use Rattle.koika_check.specs.declared.shapes.Shape.TheVariants as shape
use Rattle.koika_check.specs.declared.shapes.Shapes.{Shapes}
use Rattle.koika_check.specs.declared.typed.BaseType.TheVariants as base
use Rattle.koika_check.specs.declared.typed.ValueType.{ValueType}

-- the type of a shape, where these are the types of arrays by their numbers
abbrev pub type_of_shape : List ValueType → Shape → ValueType
type_of_shape arrays (shape.Bits width) = bits width
type_of_shape arrays (shape.Enum number) = of_base (base.Enum number)
type_of_shape arrays (shape.Struct number) = of_base (base.Struct number)
type_of_shape arrays (shape.Array number) = slice_index_or arrays number (bits 0)

-- a shape that is one of that many arrays, if it is an array
abbrev pub IsShape : (arrays : ℕ) → Shape → Type 0
IsShape arrays (shape.Array number) = number < arrays
IsShape arrays s = ⊤

-- the type of an array
pub record IsArray (of : ValueType) : Type 0 where
  pub length : ℕ
  pub item : ValueType
  pub is : of ≡ array length item

-- types of arrays, each of which has one number
pub record AreArrays (arrays : List ValueType) : Type 0 where
  pub each : (i : ℕ) → i < length arrays → IsArray (slice_index_or arrays i (bits 0))
  pub distinct : (i j : ℕ) → i < length arrays → j < length arrays → slice_index_or arrays i (bits 0) ≡ slice_index_or arrays j (bits 0) → i ≡ j

-- the type of what isn't unit, and that of a part
abbrev pub type_if : List ValueType → Option Shape → Option ValueType
type_if arrays = option_map (type_of_shape arrays)

abbrev pub part_of : List ValueType → Part → TypedPart
part_of arrays p = part (type_if arrays p.of) p.place

abbrev pub IsShapeIf : List ValueType → Option Shape → Type 0
IsShapeIf arrays of = IfSome of (IsShape (length arrays))

-- a shape that stands for a type
abbrev pub Denotes : List ValueType → Shape → Option ValueType → Type 0
Denotes arrays s of = (of ≡ Some (type_of_shape arrays s)) × IsShape (length arrays) s

-- ---- the numbers of array types

-- after these types the types of arrays of items that are known before
abbrev pub array_types : (before : List ValueType) → List ArrayShape → List ValueType
array_types before [] = before
array_types before (a ∷ later) = array_types (before ++ array a.length (type_of_shape before a.element) ∷ []) later

-- which shape it is, and its number
abbrev pub tag_of : Shape → ℕ
tag_of (shape.Bits width) = 0
tag_of (shape.Enum number) = 1
tag_of (shape.Struct number) = 2
tag_of (shape.Array number) = 3

abbrev pub number_in : Shape → ℕ
number_in (shape.Bits width) = width
number_in (shape.Enum number) = number
number_in (shape.Struct number) = number
number_in (shape.Array number) = number

-- the bytes that tell an array type from others
abbrev pub key_of : ArrayShape → List ℕ
key_of a = tag_of a.element ∷ to_le_bytes w32 (number_in a.element) ++ to_le_bytes w32 a.length

-- the array type of this number
pub record IsNumbered (types : List ValueType) (i : ℕ) (a : ArrayShape) : Type 0 where
  pub known : IsShape (length types) a.element
  pub is : slice_index_or types i (bits 0) ≡ array a.length (type_of_shape types a.element)
  pub number_fits : number_in a.element < 2 ^ 32
  pub length_fits : a.length < 2 ^ 32

-- array types under their keys, each once
pub record AreShapes (s : Shapes) : Type 0 where
  pub keys : s.keys ≡ map key_of s.arrays
  pub arrays : AreArrays (array_types [] s.arrays)
  pub each : (i : ℕ) (d : ArrayShape) → i < length s.arrays → IsNumbered (array_types [] s.arrays) i (slice_index_or s.arrays i d)

-- nothing was added, or this array type
abbrev pub Grows : List ArrayShape → ArrayShape → List ArrayShape → Type 0
Grows old a new = (new ≡ old) ⊎ (new ≡ old ++ a ∷ [])
