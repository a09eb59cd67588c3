-- What holds of a checker between any two of its steps, and what a step of it returns. All of it serves private
-- functions alone.
use Rattle.std.specs.Prelude.{◌≡◌, ℕ, ◌<◌, ◌≤◌, ◌∷◌, ◌++◌, ⊤, Bool, map, min, sum_by, List, [], drop, length, All, Option, Some, None, IfSome, Result, Ok, Err, false, nat_eq, slice_get, slice_index_or}
use Rattle.std.specs.Str.{bytes_eq}
use Rattle.std.specs.List.{list_any}
use Rattle.kw_base.specs.Names.{number_of}
use Rattle.kw_bits.specs.Host.{TakesWidth}
use Rattle.koika_types.specs.declared.declarations.Member.{Member}
use Rattle.kw_bits.specs.declared.host.HostSpec.{HostSpec}
use Rattle.koika_check.specs.Composites.{field_named, fields_of, members_of, type_at}
use Rattle.koika_check.specs.Composites as composites
use Rattle.koika_check.specs.Constants as constants
use Rattle.koika_check.specs.Constructs as constructs
use Rattle.koika_check.specs.inner.Locals.{AreLocals, locals_of, shapes_of}
use Rattle.koika_check.specs.Outcomes.{CheckResult, Gives}
use Rattle.koika_check.specs.inner.Outcomes.{Ends, Stop}
use Rattle.koika_check.specs.Scopes as scopes
use Rattle.koika_check.specs.Scopes.{Scope}
use Rattle.koika_check.specs.Selections as selections
use Rattle.koika_check.specs.inner.Shapes.{AreShapes, IsShape, array_types, part_of, type_if, type_of_shape}
use Rattle.koika_check.specs.inner.Things.{AreParts, AreThings, number_if, position_of, thing, thing_named}
use Rattle.koika_check.specs.Types.{TypedPart as TypedPart, base_width, bits, width_of}
use Rattle.koika_check.specs.declared.agreement.Part.{Part}
use Rattle.koika_check.specs.declared.checked.Checked.{Checked}
use Rattle.koika_check.specs.declared.checked.CheckedField.{CheckedField}
use Rattle.koika_check.specs.declared.checked.CheckedFunction.{CheckedFunction}
use Rattle.koika_check.specs.declared.checked.Host.{Host}
use Rattle.koika_check.specs.declared.checked.Input.{Input}
use Rattle.koika_check.specs.declared.checked.Register.{Register}
use Rattle.koika_check.specs.declared.checked.Table.{Table}
use Rattle.koika_check.specs.declared.checker.Checker.{Checker}
use Rattle.koika_check.specs.declared.checker.Known.{Known}
use Rattle.koika_check.specs.declared.checker.Signature.{Signature}
use Rattle.koika_check.specs.declared.calls.Called.{Called}
use Rattle.koika_check.specs.declared.checker.Typing.{Typing}
use Rattle.koika_check.specs.declared.checker.Typings.{Typings}
use Rattle.koika_check.specs.declared.composites.Given.{Given}
use Rattle.koika_check.specs.declared.constants.KnownFields.{KnownFields}
use Rattle.koika_check.specs.declared.constants.Knowns.{Knowns}
use Rattle.koika_check.specs.declared.shapes.ArrayShape.{ArrayShape}
use Rattle.koika_check.specs.declared.shapes.Shape.{Shape}
use Rattle.koika_check.specs.declared.shapes.Shape.TheVariants as shape
use Rattle.koika_check.specs.declared.suffixes.Selected.{Selected}
use Rattle.koika_check.specs.declared.things.Thing.{Thing}
use Rattle.koika_check.specs.declared.typed.BaseType.{BaseType}
use Rattle.koika_check.specs.declared.typed.BaseType.TheVariants as base
use Rattle.koika_check.specs.declared.typed.ValueType.{ValueType}
use Rattle.koika_check.specs.Kinds.{number_named}
use Rattle.koika_check.specs.declared.things.Kind.{Kind}
use Rattle.koika_check.specs.declared.things.Kind.TheVariants as kind

-- ---- names

-- how many of a kind are declared
abbrev pub count_of : Kind → Checked → ℕ
count_of kind.Enum d = length d.enums
count_of kind.Struct d = length d.structs
count_of kind.Register d = length d.registers
count_of kind.Input d = length d.inputs
count_of kind.Table d = length d.tables
count_of kind.Host d = length d.hosts
count_of kind.Function d = length d.functions
count_of kind.Rule d = length d.rules

-- the type that a thing of this kind and number is, if it is one
abbrev pub type_by_kind : Kind → ℕ → Option BaseType
type_by_kind kind.Enum number = Some (base.Enum number)
type_by_kind kind.Struct number = Some (base.Struct number)
type_by_kind other number = None

abbrev pub type_by_thing : Option Thing → Option BaseType
type_by_thing None = None
type_by_thing (Some t) = type_by_kind t.kind t.number

-- a name is declared as this thing, or isn't declared
abbrev pub IsDeclared : Checked → List ℕ → Option Thing → Type 0
IsDeclared d name t = (k : Kind) → number_if k t ≡ number_named k d name

-- ---- types

-- a base as a shape
abbrev pub shape_of : BaseType → Shape
shape_of (base.Bits width) = shape.Bits width
shape_of (base.Enum number) = shape.Enum number
shape_of (base.Struct number) = shape.Struct number

-- values of that many bits
pub record IsWidth (width : ℕ) : Type 0 where
  pub some : 1 ≤ width
  pub most : width ≤ 128

-- the types of arrays by their numbers
abbrev pub arrays_of : Checker → List ValueType
arrays_of c = array_types [] c.shapes.arrays

-- a shape that is an enum's or a struct's is that of a declared one
abbrev pub IsNamed : Checked → Shape → Type 0
IsNamed d (shape.Enum number) = number < length d.enums
IsNamed d (shape.Struct number) = number < length d.structs
IsNamed d other = ⊤

-- a shape of values
pub record IsType (c : Checker) (s : Shape) : Type 0 where
  pub known : IsShape (length (arrays_of c)) s
  pub named : IsNamed c.design s
  pub width : IsWidth (width_of c.design (type_of_shape (arrays_of c) s))

-- a shape of values that stands for a type
abbrev pub Stands : Checker → Shape → ValueType → Type 0
Stands c s of = (of ≡ type_of_shape (arrays_of c) s) × IsType c s

-- a shape of values, if there is one
abbrev pub IsTypeOrUnit : Checker → Option Shape → Type 0
IsTypeOrUnit c s = IfSome s (IsType c)

-- shapes that stand for these types
pub record AreTypes (c : Checker) (shapes : List Shape) (types : List ValueType) : Type 0 where
  pub are : types ≡ map (type_of_shape (arrays_of c)) shapes
  pub each : All (IsType c) shapes

-- a type, if it isn't unit
pub record IsTypeIf (c : Checker) (s : Option Shape) (of : Option ValueType) : Type 0 where
  pub is : of ≡ type_if (arrays_of c) s
  pub known : IsTypeOrUnit c s

-- what callers see of a function
pub record IsSignature (c : Checker) (s : Signature) (f : CheckedFunction) : Type 0 where
  pub parameters : AreTypes c s.parameters f.parameters
  pub result : IsTypeIf c s.result f.result

-- what is declared has widths of values; a struct has that of its fields together, or 129 for more than 128
pub record AreWidths (d : Checked) : Type 0 where
  pub enums : (number : ℕ) → number < length d.enums → IsWidth (base_width d (base.Enum number))
  pub structs : (number : ℕ) → number < length d.structs →
      base_width d (base.Struct number) ≡ min (sum_by (λ (f : CheckedField). width_of d f.of) (fields_of d number)) 129
  pub tables : All (λ (t : Table). IsWidth t.spec.in_width × IsWidth t.spec.out_width) d.tables
  pub hosts : All (λ (h : Host). TakesWidth h.spec.kind h.spec.in_width) d.hosts

-- ---- checkers

-- what a checker knows is what the design has
pub record IsChecker (c : Checker) : Type 0 where
  pub things : AreThings c.things
  pub names : (name : List ℕ) → IsDeclared c.design name (thing_named c.things name)
  pub parts : AreParts c.parts
  pub members : (number : ℕ) → number < length c.design.enums → (name : List ℕ) →
      position_of c.parts (thing kind.Enum number) name ≡ number_of (map (λ (m : Member). m.name) (members_of c.design number)) name
  pub named_fields : (number : ℕ) → number < length c.design.structs → (name : List ℕ) →
      position_of c.parts (thing kind.Struct number) name ≡ field_named (fields_of c.design number) name
  pub widths : AreWidths c.design
  pub shapes : AreShapes c.shapes
  pub arrays : (i : ℕ) (d : ArrayShape) → i < length c.shapes.arrays → (slice_index_or c.shapes.arrays i d).width ≡ width_of c.design (slice_index_or (arrays_of c) i (bits 0))
  pub array_widths : (i : ℕ) (d : ArrayShape) → i < length c.shapes.arrays → IsWidth (slice_index_or c.shapes.arrays i d).width
  pub registers : AreTypes c c.registers (map (λ (r : Register). r.of) c.design.registers)
  pub inputs : AreTypes c c.inputs (map (λ (i : Input). i.of) c.design.inputs)
  pub each_fields : length c.fields ≡ length c.design.structs
  pub fields : (number : ℕ) (d : List Shape) → number < length c.fields → AreTypes c (slice_index_or c.fields number d) (map (λ (f : CheckedField). f.of) (fields_of c.design number))
  pub each_function : length c.functions ≡ length c.design.functions
  pub functions : (number : ℕ) (s : Signature) (f : CheckedFunction) → number < length c.functions → IsSignature c (slice_index_or c.functions number s) (slice_index_or c.design.functions number f)
  pub locals : AreLocals c.locals
  pub bound : All (IsType c) (shapes_of c.locals)
  pub hosts : All (λ (h : HostSpec). TakesWidth h.kind h.in_width) c.hosts
  pub each_rule : length c.asserted ≡ length c.design.rules
  pub marks : (rule : ℕ) → slice_index_or c.asserted rule false ≡ list_any (nat_eq rule) c.design.asserts

-- the same, as one fact
pub data IsReady (c : Checker) : Type 0 where
  ready : IsChecker c → IsReady c

-- array types were added; what is declared stayed
pub record Grows (old new : Checker) : Type 0 where
  pub design : new.design ≡ old.design
  pub things : new.things ≡ old.things
  pub parts : new.parts ≡ old.parts
  pub registers : new.registers ≡ old.registers
  pub inputs : new.inputs ≡ old.inputs
  pub fields : new.fields ≡ old.fields
  pub functions : new.functions ≡ old.functions
  pub hosts : new.hosts ≡ old.hosts
  pub asserted : new.asserted ≡ old.asserted
  pub arrays : (more : List ArrayShape) × (new.shapes.arrays ≡ old.shapes.arrays ++ more)

-- ---- steps

-- what names stand for
abbrev pub scope_of : Checker → Scope
scope_of c = record { design = c.design; locals = locals_of (arrays_of c) c.locals }

-- a step gives what an outcome gives, where its values stand for those of outcomes as `Means` says
pub record Yields {X Y : Type 0} (Means : Checker → Y → X → Type 0) (old : Checker) (outcome : CheckResult X) (new : Checker) (y : Y) : Type 0 where
  pub kept : IsChecker new
  pub grows : Grows old new
  pub value : X
  pub gives : outcome ≡ Gives value
  pub means : Means new y value

-- a step answers what an outcome says: a value for a result, the fault for a fault
abbrev pub Checks : {X Y : Type 0} → (Checker → Y → X → Type 0) → (old : Checker) → CheckResult X → (new : Checker) → Result Y Stop → Type 0
Checks Means old outcome new (Ok y) = Yields Means old outcome new y
Checks Means old outcome new (Err stop) = Ends outcome stop

-- a part of a type of values, or of none
abbrev pub IsPart : Checker → Part → Type 0
IsPart c p = IsTypeOrUnit c p.of

abbrev pub StandsFor : Checker → Part → TypedPart → Type 0
StandsFor c p x = (x ≡ part_of (arrays_of c) p) × IsPart c p

-- the same where names stand for what this scope says
pub record IsPartIn (scope : Scope) (c : Checker) (p : Part) (x : TypedPart) : Type 0 where
  pub scope_is : scope_of c ≡ scope
  pub part : x ≡ part_of (arrays_of c) p
  pub type : IsPart c p

-- the shape of the first of parts
abbrev pub of_first : List Part → Option Shape
of_first [] = None
of_first (p ∷ ps) = p.of

-- a value means what is well typed, and names stand for what this scope says
pub record IsKnown (scope : Scope) (c : Checker) (y : Known) (x : constants.Known) : Type 0 where
  pub scope_is : scope_of c ≡ scope
  pub part : x.part ≡ part_of (arrays_of c) y.part
  pub type : IsPart c y.part
  pub value : x.value ≡ y.value

pub record IsTyping (scope : Scope) (c : Checker) (y : Typing) (x : constructs.Typing) : Type 0 where
  pub scope_is : scope_of c ≡ scope
  pub part : x.part ≡ part_of (arrays_of c) y.part
  pub type : IsPart c y.part
  pub typed : x.typed ≡ y.typed

-- a selection whose shape stands for its type
abbrev pub Takes : Checker → Selected → selections.Selected → Type 0
Takes c s one = (one.selection ≡ s.selection) × Stands c s.of one.of

-- ---- fields that are given

-- whether the next declared field has this name
abbrev pub is_named : Option CheckedField → List ℕ → Bool
is_named None text = false
is_named (Some f) text = bytes_eq f.name text

abbrev pub is_next : (next : List CheckedField) → List ℕ → Bool
is_next next text = is_named (slice_get next 0) text

-- what is known of a field that is given where these are the fields, and these come next
pub record IsGiven (c : Checker) (fields next : List CheckedField) (g : Given) (x : composites.Given) : Type 0 where
  pub place : x.name.place ≡ g.place
  pub in_order : g.is_in_order ≡ is_next next x.name.text
  pub wanted : type_if (arrays_of c) g.wanted ≡ type_at fields (field_named fields x.name.text)
  pub known : IsTypeOrUnit c g.wanted
  pub part : x.part ≡ part_of (arrays_of c) g.part
  pub type : IsPart c g.part

abbrev pub AreGiven : Checker → (fields next : List CheckedField) → List Given → List composites.Given → Type 0
AreGiven c fields next [] [] = ⊤
AreGiven c fields next (g ∷ given) (x ∷ xs) = IsGiven c fields next g x × AreGiven c fields (drop 1 next) given xs
AreGiven c fields next given xs = ⊥

-- ---- parts in order

-- constants in order
pub record AreKnown (scope : Scope) (c : Checker) (y : Knowns) (xs : List constants.Known) : Type 0 where
  pub scope_is : scope_of c ≡ scope
  pub parts : map (λ (x : constants.Known). x.part) xs ≡ map (part_of (arrays_of c)) y.parts
  pub types : All (IsPart c) y.parts
  pub values : map (λ (x : constants.Known). x.value) xs ≡ y.values

-- those of a struct's fields
pub record AreKnownFields (scope : Scope) (number : ℕ) (c : Checker) (y : KnownFields) (xs : List constants.KnownField) : Type 0 where
  pub scope_is : scope_of c ≡ scope
  pub given : AreGiven c (fields_of c.design number) (fields_of c.design number) y.given (map constants.given xs)
  pub values : map (λ (x : constants.KnownField). x.known.value) xs ≡ y.values

-- a member of an enum
pub record IsMember (c : Checker) (place : ℕ) (y : Known) (m : composites.MemberOf) : Type 0 where
  pub part : (constants.known_member place m).part ≡ part_of (arrays_of c) y.part
  pub type : IsPart c y.part
  pub value : (constants.known_member place m).value ≡ y.value

-- ---- typed parts

-- what a typed part stands for
abbrev pub typing_of : Checker → Typing → constructs.Typing
typing_of c y = record { part = part_of (arrays_of c) y.part; typed = y.typed }

abbrev pub TypedAs : Checker → Typing → constructs.Typing → Type 0
TypedAs c y x = (x ≡ typing_of c y) × IsPart c y.part

-- many in order
pub record AreTyped (c : Checker) (y : Typings) (xs : List constructs.Typing) : Type 0 where
  pub parts : constructs.types_of_parts xs ≡ map (part_of (arrays_of c)) y.parts
  pub types : All (IsPart c) y.parts
  pub typed : constructs.typed_of xs ≡ y.typed

-- what is called, and what calls of it are to be
pub record IsCalled (c : Checker) (y : Called) (x : scopes.Called) : Type 0 where
  pub operation : x.operation ≡ y.operation
  pub parameters : AreTypes c y.parameters x.parameters
  pub gives : IsTypeIf c y.gives x.gives
