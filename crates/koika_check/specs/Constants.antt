-- What a constant evaluates to: its value and its type, or its first fault. The conditions are those of expressions.
use Rattle.std.specs.Prelude.{ℕ, map, List, Some}
use Rattle.kw_base.specs.declared.fault_number.TheConstants.{UNKNOWN_NAME}
use Rattle.koika_syntax.specs.declared.tree.Name.{Name}
use Rattle.koika_syntax.specs.declared.tree.Constant.{Constant, Constant-F, fold-Constant}
use Rattle.koika_syntax.specs.declared.tree.Constant.TheOpen as constant
use Rattle.koika_syntax.specs.declared.tree.ConstantField.{ConstantField-F}
use Rattle.koika_types.specs.declared.value.Value.{Value}
use Rattle.koika_types.specs.declared.value.Value.TheVariants as value
use Rattle.koika_check.specs.Outcomes.{CheckResult, ◌>>=◌, Gives, in_turn, found, wrong}
use Rattle.koika_check.specs.Types.{TypedPart, bits, of_base, part}
use Rattle.koika_check.specs.Composites.{Given, MemberOf, array_of, member, struct_of}
use Rattle.koika_check.specs.declared.checked.Checked.{Checked}
use Rattle.koika_check.specs.declared.typed.BaseType.TheVariants as base
use Rattle.koika_check.specs.Kinds.{number_named}
use Rattle.koika_check.specs.declared.things.Kind.TheVariants as kind

-- a constant that is well typed
pub record Known : Type 0 where
  pub part : TypedPart
  pub value : Value

-- one that a field is given
pub record KnownField : Type 0 where
  pub name : Name
  pub known : Known

-- what a constant evaluates to in a design
abbrev pub ConstantMeaning : Type 0
ConstantMeaning = Checked → CheckResult Known

-- what a field of a constant evaluates to in a design
abbrev pub FieldMeaning : Type 0
FieldMeaning = Checked → CheckResult KnownField

-- a member as a constant
abbrev pub known_member : (place : ℕ) → MemberOf → Known
known_member place m = record { part = part (Some (of_base (base.Enum m.number))) place; value = value.Member m.number m.bits }

-- the name and the type that a constant's field gives
abbrev pub given : KnownField → Given
given field = record { name = field.name; part = field.known.part }

-- a struct of fields, and an array of elements
abbrev pub struct_known : Checked → (number place close : ℕ) → List KnownField → CheckResult Known
struct_known d number place close known = struct_of d number place (map given known) close >>= λ whole.
    Gives (record { part = whole; value = value.Fields number (map (λ (f : KnownField). f.known.value) known) })

-- the constant of an array's items
abbrev pub array_known : Checked → (place : ℕ) → List Known → CheckResult Known
array_known d place known = array_of d place (map (λ (k : Known). k.part) known) >>= λ whole.
    Gives (record { part = whole; value = value.Items (map (λ (k : Known). k.value) known) })

-- what a constant evaluates to, by what its parts do
abbrev pub constant_step : Constant-F ConstantMeaning FieldMeaning → ConstantMeaning
constant_step (constant.Literal l) d = Gives (record { part = part (Some (bits l.bits.width)) l.place; value = value.Number l.bits })
constant_step (constant.Member of m) d = member d of m >>= λ found. Gives (known_member of.place found)
constant_step (constant.Struct of fields close) d = found (number_named kind.Struct d of.text) (wrong UNKNOWN_NAME of.place) >>= λ number.
    in_turn (λ (field : FieldMeaning). field d) fields >>= struct_known d number of.place close
constant_step (constant.Array place elements) d = in_turn (λ (element : ConstantMeaning). element d) elements >>= array_known d place

-- what a field of a constant evaluates to, by its value
abbrev pub constant_field_step : ConstantField-F ConstantMeaning FieldMeaning → FieldMeaning
constant_field_step field d = field.value d >>= λ known. Gives (record { name = field.name; known = known })

-- what a constant evaluates to where this much is declared
unfoldable pub constant_of : Constant → Checked → CheckResult Known
constant_of = fold-Constant ConstantMeaning FieldMeaning constant_step constant_field_step
