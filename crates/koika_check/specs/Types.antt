-- Types of values as the checker sees them: a base and the lengths of the arrays round it, the outermost first; what
-- a type expression evaluates to, and when a part is of a wanted type. Packed types with 1 to 128 bits, as IEEE
-- 1800-2017 has them (7.2.1, 7.4.1).
use Rattle.std.specs.Prelude.{ℕ, ◌*◌, nat_eq, nat_le, Bool, true, false, ◌&&◌, map, List, [], ◌∷◌, Option, Some, None, slice_index, is_some}
use Rattle.std.specs.Str.{bytes_eq}
use Rattle.kw_base.specs.declared.fault_number.TheConstants.{UNKNOWN_NAME, WRONG_TYPE, WRONG_WIDTH}
use Rattle.koika_syntax.specs.declared.tree.Name.{Name}
use Rattle.koika_syntax.specs.declared.tree.TypeExpression.{TypeExpression, TypeExpression-F, fold-TypeExpression}
use Rattle.koika_syntax.specs.declared.tree.TypeExpression.TheOpen as type_expression
use Rattle.koika_types.specs.declared.declarations.EnumDecl.{EnumDecl}
use Rattle.koika_check.specs.Outcomes.{CheckResult, ◌>>=◌, Condition, holds, first, where_all, found, wrong}
use Rattle.koika_check.specs.declared.stop.Wrong.{Wrong}
use Rattle.koika_check.specs.declared.checked.Checked.{Checked}
use Rattle.koika_check.specs.declared.checked.Struct.{Struct}
use Rattle.koika_check.specs.declared.typed.BaseType.{BaseType}
use Rattle.koika_check.specs.declared.typed.BaseType.TheVariants as base
use Rattle.koika_check.specs.declared.typed.ValueType.{ValueType}
use Rattle.koika_check.specs.Kinds.{number_named}
use Rattle.koika_check.specs.declared.things.Kind.TheVariants as kind

-- ---- types

-- values of a base, bits of a width, and that many items of a type
abbrev pub of_base : BaseType → ValueType
of_base b = record { base = b; lengths = [] }

-- the type `bits N`
abbrev pub bits : ℕ → ValueType
bits width = of_base (base.Bits width)

-- the type of an array of that many items of a type
abbrev pub array : ℕ → ValueType → ValueType
array length item = record { base = item.base; lengths = length ∷ item.lengths }

-- two types are one
abbrev pub same_base : BaseType → BaseType → Bool
same_base (base.Bits width) (base.Bits width') = nat_eq width width'
same_base (base.Enum number) (base.Enum number') = nat_eq number number'
same_base (base.Struct number) (base.Struct number') = nat_eq number number'
same_base a b = false

-- two types are equal
abbrev pub same_type : ValueType → ValueType → Bool
same_type a b = same_base a.base b.base && bytes_eq a.lengths b.lengths

-- a number that a width of values, or the length of an array, may be
abbrev pub is_width : ℕ → Bool
is_width width = nat_le 1 width && nat_le width 128

-- how many bits a value has
abbrev pub base_width : Checked → BaseType → ℕ
base_width d (base.Bits width) = width
base_width d (base.Enum number) = slice_index (map (λ (e : EnumDecl). e.width) d.enums) number
base_width d (base.Struct number) = slice_index (map (λ (s : Struct). s.width) d.structs) number

-- how many innermost items an array of these lengths has
abbrev pub all_lengths : List ℕ → ℕ
all_lengths [] = 1
all_lengths (length ∷ lengths) = length * all_lengths lengths

-- how many bits a value of a type has
abbrev pub width_of : Checked → ValueType → ℕ
width_of d t = base_width d t.base * all_lengths t.lengths

-- the same, 0 where it is unit
abbrev pub width_if : Checked → Option ValueType → ℕ
width_if d None = 0
width_if d (Some t) = width_of d t

-- ---- declared types

-- an enum, or else a struct
abbrev pub type_by : Option ℕ → Option ℕ → Option BaseType
type_by (Some number) other = Some (base.Enum number)
type_by None (Some number) = Some (base.Struct number)
type_by None None = None

-- the enum or the struct of a name
abbrev pub type_named : Checked → List ℕ → Option BaseType
type_named d name = type_by (number_named kind.Enum d name) (number_named kind.Struct d name)

-- a named type is declared, else 20; its width is 1 to 128, else 23
abbrev pub named_type : Checked → Name → CheckResult ValueType
named_type d n = found (type_named d n.text) (wrong UNKNOWN_NAME n.place) >>= λ b.
    where_all (holds (is_width (base_width d b)) (wrong WRONG_WIDTH n.place) ∷ []) (of_base b)

-- an array's length and its total width are 1 to 128, else 23
abbrev pub array_type : Checked → (length place : ℕ) → ValueType → CheckResult ValueType
array_type d length place item =
    where_all (holds (is_width length && is_width (width_of d (array length item))) (wrong WRONG_WIDTH place) ∷ []) (array length item)

-- what a type expression evaluates to, by what the type of its items does
abbrev pub type_step : Checked → TypeExpression-F (CheckResult ValueType) → CheckResult ValueType
type_step d (type_expression.Bits width) =
    where_all (holds (is_width width.number.value) (wrong WRONG_WIDTH width.place) ∷ []) (bits width.number.value)
type_step d (type_expression.Named n) = named_type d n
type_step d (type_expression.Array place element length) = element >>= array_type d length.value place

-- what a type expression evaluates to
unfoldable pub type_of : Checked → TypeExpression → CheckResult ValueType
type_of d = fold-TypeExpression (CheckResult ValueType) (type_step d)

-- ---- parts

-- a part: its type, none where it is unit, and the place of its first token
pub record TypedPart : Type 0 where
  pub of : Option ValueType
  pub place : ℕ

-- a part of a type, or of none, at a place
abbrev pub part : Option ValueType → ℕ → TypedPart
part of place = record { of = of; place = place }

-- the width of bits; none for all else
abbrev pub bits_by : BaseType → List ℕ → Option ℕ
bits_by (base.Bits width) [] = Some width
bits_by b lengths = None

-- the width of a type that is `bits N`
abbrev pub as_bits : Option ValueType → Option ℕ
as_bits (Some t) = bits_by t.base t.lengths
as_bits None = None

-- the number of a struct; none for all else
abbrev pub struct_by : BaseType → List ℕ → Option ℕ
struct_by (base.Struct number) [] = Some number
struct_by b lengths = None

-- the number of the struct that a type is
abbrev pub as_struct : Option ValueType → Option ℕ
as_struct (Some t) = struct_by t.base t.lengths
as_struct None = None

-- 22 at a part, which isn't of the type that is wanted there
abbrev pub wrong_type : TypedPart → Wrong
wrong_type part = wrong WRONG_TYPE part.place

-- the part is bits; it isn't unit
abbrev pub is_bits : TypedPart → Condition
is_bits part = holds (is_some (as_bits part.of)) (wrong_type part)

-- a part has a value
abbrev pub is_value : TypedPart → Condition
is_value part = holds (is_some part.of) (wrong_type part)

-- the part agrees with a type: 23 where both are bits of different widths, 22 where they differ otherwise
abbrev pub differs_by : Option ℕ → Option ℕ → ℕ
differs_by (Some width) (Some width') = WRONG_WIDTH
differs_by a b = WRONG_TYPE

-- two types are equal, or there is none in both cases
abbrev pub same : Option ValueType → Option ValueType → Bool
same None None = true
same (Some a) (Some b) = same_type a b
same a b = false

-- a part has the wanted type, else its fault
abbrev pub agrees : Option ValueType → TypedPart → Condition
agrees wanted part = holds (same wanted part.of) (wrong (differs_by (as_bits wanted) (as_bits part.of)) part.place)

-- each of the parts is so
abbrev pub each : {X : Type 0} → (X → Condition) → List X → Condition
each condition xs = first (map condition xs)
