-- What a construct evaluates to after its parts: its type, and the expression with its names resolved, or the fault
-- of its own conditions. One definition for each construct. This project's own rules, after the typing of Kôika
-- (Bourgeat et al., PLDI 2020).
use Rattle.std.specs.Prelude.{ℕ, ◌&&◌, nat_le, nat_eq, map, List, [], ◌∷◌, ◌++◌, length, Option, Some, None}
use Rattle.kw_base.specs.declared.fault_number.TheConstants.{WRONG_ARGUMENT_COUNT, WRONG_WIDTH}
use Rattle.koika_syntax.specs.declared.operator.BinaryOperator.{BinaryOperator}
use Rattle.koika_syntax.specs.declared.operator.Extension.{Extension}
use Rattle.koika_syntax.specs.declared.operator.SignedComparison.{SignedComparison}
use Rattle.koika_syntax.specs.declared.tree.Literal.{Literal}
use Rattle.koika_syntax.specs.declared.tree.Name.{Name}
use Rattle.koika_syntax.specs.declared.tree.Number.{Number}
use Rattle.koika_syntax.specs.declared.tree.UpdatedPart.{UpdatedPart as WrittenPart}
use Rattle.koika_syntax.specs.declared.tree.UpdatedPart.TheVariants as parts
use Rattle.koika_syntax.specs.declared.tree.Prefix.{Prefix}
use Rattle.koika_syntax.specs.declared.tree.Suffix.{Suffix}
use Rattle.koika_types.specs.declared.value.Value.TheVariants as value
use Rattle.koika_check.specs.Outcomes.{CheckResult, ◌>>=◌, Gives, one_by_one, Condition, holds, first, where_all, found, wrong}
use Rattle.koika_check.specs.Types.{TypedPart, agrees, bits, each, is_bits, of_base, part, width_of, wrong_type}
use Rattle.koika_check.specs.Composites.{Given, array_of, member, struct_of}
use Rattle.koika_check.specs.Scopes.{Called, Scope, bare, register, register_type}
use Rattle.koika_check.specs.Operators.{bits_in, compared, operated}
use Rattle.koika_check.specs.Selections.{Selected, replace_field, replace_item, select}
use Rattle.koika_check.specs.declared.checked.Checked.{Checked}
use Rattle.koika_check.specs.declared.typed.BaseType.TheVariants as base
use Rattle.koika_check.specs.declared.typed.Operation.{Operation}
use Rattle.koika_check.specs.declared.typed.Operation.TheVariants as operation
use Rattle.koika_check.specs.declared.typed.Selection.{Selection}
use Rattle.koika_check.specs.declared.typed.Typed.{Typed}
use Rattle.koika_check.specs.declared.typed.Typed.TheVariants as typed
use Rattle.koika_check.specs.declared.typed.ValueType.{ValueType}

-- ---- parts that are well typed

-- an expression
pub record Typing : Type 0 where
  pub part : TypedPart
  pub typed : Typed

-- an arm of an `if`
pub record ArmTyping : Type 0 where
  pub place : ℕ
  pub condition : Typing
  pub body : Typing

-- a field that is given
pub record FieldTyping : Type 0 where
  pub name : Name
  pub typing : Typing

-- the type of a part and its typed form
abbrev pub typing : Option ValueType → (place : ℕ) → Typed → Typing
typing of place t = record { part = part of place; typed = t }

-- the types of some parts
abbrev pub types_of_parts : List Typing → List TypedPart
types_of_parts = map (λ (t : Typing). t.part)

-- the typed forms of some parts
abbrev pub typed_of : List Typing → List Typed
typed_of = map (λ (t : Typing). t.typed)

-- an operation on operands
abbrev pub applied : Option ValueType → (place : ℕ) → Operation → List Typing → Typing
applied of place o operands = typing of place (typed.Apply o (typed_of operands))

-- ---- literals and names

-- a literal: its bits
abbrev pub literal : Literal → Typing
literal l = typing (Some (bits l.bits.width)) l.place (typed.Constant (value.Number l.bits))

-- `E::M`
abbrev pub member_in : Checked → (of member : Name) → CheckResult Typing
member_in d of m = member d of m >>= λ found.
    Gives (typing (Some (of_base (base.Enum found.number))) of.place (typed.Constant (value.Member found.number found.bits)))

-- a bare name: a local or an input (20)
abbrev pub named : Scope → Name → CheckResult Typing
named scope n = bare scope n >>= λ one. Gives (typing (Some one.of) n.place one.typed)

-- `read`: the register's type
abbrev pub read_in : Checked → (place port : ℕ) → (register : Name) → CheckResult Typing
read_in d place port r = register d r >>= λ number. Gives (applied (register_type d number) place (operation.Read port number) [])

-- `abort`: unit
abbrev pub abort_at : ℕ → Typing
abort_at place = applied None place operation.Abort []

-- ---- operators and suffixes

-- `~ -`: bits (22); the same. It begins at the first of them
abbrev pub place_of_prefixes : List Prefix → ℕ → ℕ
place_of_prefixes [] place = place
place_of_prefixes (prefix ∷ _) place = prefix.place

-- what prefix operators before an operand evaluate to
abbrev pub unary : List Prefix → Typing → CheckResult Typing
unary prefixes inner =
    where_all (is_bits inner.part ∷ [])
    (applied inner.part.of (place_of_prefixes prefixes inner.part.place) (operation.Unary (map (λ (p : Prefix). p.operator) prefixes)) (inner ∷ []))

-- operands and the operators between them, as far as a chain was looked at, and the part that all of them make
pub record Joined : Type 0 where
  pub left : TypedPart
  pub operators : List BinaryOperator
  pub operands : List Typing

-- one more operator and its right operand; its left operand is all in front of it
abbrev pub join : BinaryOperator → Typing → Joined → CheckResult Joined
join operator right before = operated operator before.left right.part >>= λ of.
    Gives (record { left = part of before.left.place; operators = before.operators ++ operator ∷ []; operands = before.operands ++ right ∷ [] })

-- what a chain of operators of one level evaluates to, whose first operand has this width
abbrev pub chained : (width : ℕ) → Joined → Typing
chained width all = applied all.left.of all.left.place (operation.Chain all.operators width) all.operands

-- a part of a value, and what was taken to reach it
pub record SelectedPart : Type 0 where
  pub whole : TypedPart
  pub selections : List Selection

-- one suffix more taken of a value
abbrev pub take_part : Checked → Suffix → SelectedPart → CheckResult SelectedPart
take_part d suffix before = select d before.whole suffix >>= λ one.
    Gives (record { whole = part (Some one.of) before.whole.place; selections = before.selections ++ one.selection ∷ [] })

-- suffixes after a value
abbrev pub postfix : Checked → List Suffix → Typing → CheckResult Typing
postfix d suffixes primary = one_by_one (take_part d) suffixes (record { whole = primary.part; selections = [] }) >>= λ all.
    Gives (applied all.whole.of all.whole.place (operation.Select all.selections) (primary ∷ []))

-- `slt sle sgt sge`
abbrev pub comparison : (place : ℕ) → SignedComparison → (left right : Typing) → CheckResult Typing
comparison place o left right = compared left.part right.part >>= λ of. Gives (applied of place (operation.Compare o) (left ∷ right ∷ []))

-- `zext`, `sext`: bits (22); the number from the width to 128 (23); bits
abbrev pub extended : (place : ℕ) → Extension → (width : Number) → Typing → CheckResult Typing
extended place extension width inner =
    where_all
    (is_bits inner.part
    ∷ holds (nat_le (bits_in inner.part) width.value && nat_le width.value 128) (wrong WRONG_WIDTH width.place)
    ∷ [])
    (applied (Some (bits width.value)) place (operation.Extend extension width.value) (inner ∷ []))

-- `pack`: not unit (22); bits
abbrev pub packed : Checked → (place : ℕ) → Typing → CheckResult Typing
packed d place inner = found inner.part.of (wrong_type inner.part) >>= λ of.
    Gives (applied (Some (bits (width_of d of))) place operation.Pack (inner ∷ []))

-- `unpack(T, e)`: e agrees with bits of T's width; T
abbrev pub unpacked : Checked → (place : ℕ) → ValueType → Typing → CheckResult Typing
unpacked d place of inner =
    where_all (agrees (Some (bits (width_of d of))) inner.part ∷ []) (applied (Some of) place (operation.Unpack of) (inner ∷ []))

-- `update`; the same
abbrev pub replaced : Checked → WrittenPart → (old new : TypedPart) → CheckResult Selected
replaced d (parts.Field n) old new = replace_field d old n new
replaced d (parts.Index i) old new = replace_item d old i new

-- what an update of a part of a value evaluates to
abbrev pub updated : Checked → (place : ℕ) → WrittenPart → (old new : Typing) → CheckResult Typing
updated d place part old new = replaced d part old.part new.part >>= λ one.
    Gives (applied old.part.of place (operation.Update one.selection) (old ∷ new ∷ []))

-- `write`: the value agrees with the register's type; unit
abbrev pub written : Checked → (place port register : ℕ) → Typing → CheckResult Typing
written d place port number new =
    where_all (agrees (register_type d number) new.part ∷ []) (applied None place (operation.Write port number) (new ∷ []))

-- ---- structs, arrays, calls

-- `S::{..}`
abbrev pub given_of : FieldTyping → Given
given_of f = record { name = f.name; part = f.typing.part }

-- what a struct's fields evaluate to, given in any order
abbrev pub struct_in : Checked → (number place close : ℕ) → List FieldTyping → CheckResult Typing
struct_in d number place close fields = struct_of d number place (map given_of fields) close >>= λ whole.
    Gives (applied whole.of whole.place (operation.Struct number) (map (λ (f : FieldTyping). f.typing) fields))

-- `[e, ..]`
abbrev pub array_in : Checked → (place : ℕ) → List Typing → CheckResult Typing
array_in d place values = array_of d place (types_of_parts values) >>= λ whole. Gives (applied whole.of whole.place operation.Array values)

-- each argument agrees with its parameter, as far as there are both
abbrev pub arguments_agree : List ValueType → List TypedPart → Condition
arguments_agree (of ∷ parameters) (part ∷ arguments) = first (agrees (Some of) part ∷ arguments_agree parameters arguments ∷ [])
arguments_agree parameters arguments = None

-- a call: number of arguments (25); each agrees
abbrev pub call : Name → Called → List Typing → CheckResult Typing
call n c values =
    where_all
    (holds (nat_eq (length values) (length c.parameters)) (wrong WRONG_ARGUMENT_COUNT n.place)
    ∷ arguments_agree c.parameters (types_of_parts values)
    ∷ [])
    (applied c.gives n.place c.operation values)

-- ---- `if`

-- with `else` the type of the first body, without it unit
abbrev pub type_of_bodies : (arms last : List Typing) → Option ValueType
type_of_bodies arms [] = None
type_of_bodies [] (body ∷ _) = body.part.of
type_of_bodies (first ∷ _) (body ∷ _) = first.part.of

-- the place of the first arm's value, or of the last block's
abbrev pub place_of_arms : List ArmTyping → List Typing → ℕ
place_of_arms [] [] = 0
place_of_arms [] (body ∷ _) = body.part.place
place_of_arms (arm ∷ _) last = arm.place

-- `if`: each condition agrees with bits 1; with `else` all arms agree with the first; without, each arm is unit (22)
abbrev pub conditional : List ArmTyping → (last : List Typing) → CheckResult Typing
conditional arms last =
    let conditions = map (λ (a : ArmTyping). a.condition) arms in
    let bodies = map (λ (a : ArmTyping). a.body) arms in
    where_all
    (each (agrees (Some (bits 1))) (types_of_parts conditions) ∷ each (agrees (type_of_bodies bodies last)) (types_of_parts (bodies ++ last)) ∷ [])
    (typing (type_of_bodies bodies last) (place_of_arms arms last)
    (typed.If (typed_of conditions) (typed_of (bodies ++ last))))
