-- Which typed trees are well typed: each expression by its construct, after the typing of Kôika (Bourgeat et al.,
-- PLDI 2020) over packed types (IEEE 1800-2017, 7.2.1 and 7.4.1); and what holds of a whole design. It says nothing
-- of names.
use Rattle.std.specs.List.{AllByRecursion}
use Rattle.std.specs.Prelude.{◌≡◌, ℕ, ◌+◌, ◌-◌, ◌/◌, ◌<◌, ◌≤◌, ◌⊎◌, min, map, sum_by, replicate, reverse, drop, List, [], ◌∷◌, length, All, Option, Some, None, IfSome, slice_get}
use Rattle.kw_bits.specs.BitVector.{IsBits}
use Rattle.kw_bits.specs.Host as host
use Rattle.kw_bits.specs.Laws.{HasWidth}
use Rattle.koika_syntax.specs.declared.operator.BinaryOperator.{BinaryOperator}
use Rattle.koika_syntax.specs.declared.operator.BinaryOperator.TheVariants as binary
use Rattle.koika_types.specs.declared.declarations.EnumDecl.{EnumDecl}
use Rattle.koika_types.specs.declared.value.Value.{Value}
use Rattle.koika_types.specs.declared.value.Value.TheOpen.{Value-F}
use Rattle.koika_types.specs.declared.value.Value.TheFolds.{rec-Value}
use Rattle.typed_core.specs.Valid.{AreNodes, IsHost, IsPort, IsTable, IsWidth, TriesNoneTwice}
use Rattle.typed_core.specs.declared.limits.TheConstants.{MAX_REGISTERS, MAX_INPUTS, MAX_RULES, MAX_NODES}
use Rattle.koika_check.specs.Composites.{fields_of}
use Rattle.koika_check.specs.Sizes.{design_size}
use Rattle.koika_check.specs.Types.{array, base_width, bits, of_base, width_of}
use Rattle.koika_check.specs.declared.checked.Checked.{Checked}
use Rattle.koika_check.specs.declared.checked.CheckedField.{CheckedField}
use Rattle.koika_check.specs.declared.checked.CheckedFunction.{CheckedFunction}
use Rattle.koika_check.specs.declared.checked.Host.{Host}
use Rattle.koika_check.specs.declared.checked.Input.{Input}
use Rattle.koika_check.specs.declared.checked.Register.{Register}
use Rattle.koika_check.specs.declared.checked.CheckedRule.{CheckedRule}
use Rattle.koika_check.specs.declared.checked.Struct.{Struct}
use Rattle.koika_check.specs.declared.checked.Table.{Table}
use Rattle.koika_check.specs.declared.measure.TheConstants.{MAX_WEIGHT, MAX_DEPTH}
use Rattle.koika_check.specs.declared.typed.BaseType.{BaseType}
use Rattle.koika_check.specs.declared.typed.BaseType.TheVariants as base
use Rattle.koika_check.specs.declared.typed.Operation.{Operation}
use Rattle.koika_check.specs.declared.typed.Operation.TheVariants as operation
use Rattle.koika_check.specs.declared.typed.Selection.{Selection}
use Rattle.koika_check.specs.declared.typed.Selection.TheVariants as selection
use Rattle.koika_check.specs.declared.typed.BlockStep.{BlockStep-F}
use Rattle.koika_check.specs.declared.typed.BlockStep.TheOpen as typed
use Rattle.koika_check.specs.declared.typed.Typed.{Typed, Typed-F, rec-Typed}
use Rattle.koika_check.specs.declared.typed.ValueType.{ValueType}

-- ---- types and values

-- a type of values that have 1 to 128 bits
abbrev pub IsType : Checked → ValueType → Type 0
IsType d t = IsWidth (width_of d t)

-- each of the first is so for its counterpart among the second, one by one
abbrev pub Pairwise : {X Y : Type 0} → (X → Y → Type 0) → List X → List Y → Type 0
Pairwise is [] [] = Unit {0}
Pairwise is (x ∷ xs) (y ∷ ys) = is x y × Pairwise is xs ys
Pairwise is xs ys = ⊥

-- the outermost part of a value is of the type, where `is` says which of its parts are of which types
abbrev pub PartIsOf : Checked → {X : Type 0} → (X → ValueType → Type 0) → Value-F X → ValueType → Type 0
PartIsOf d is (Value-F.Number number) t = (t ≡ bits number.width) × IsBits number
PartIsOf d is (Value-F.Member number member) t = (t ≡ of_base (base.Enum number)) × HasWidth member (base_width d (base.Enum number))
PartIsOf d is (Value-F.Fields number values) t = (t ≡ of_base (base.Struct number)) × Pairwise is values (map (λ (f : CheckedField). f.of) (fields_of d number))
PartIsOf d is (Value-F.Items values) t = (item : ValueType) × (t ≡ array (length values) item) × Pairwise is values (replicate (length values) item)

-- the value is of the type
abbrev pub IsOf : Checked → Value → ValueType → Type 0
IsOf d = rec-Value (ValueType → Type 0) (λ X whole is. PartIsOf d is)

-- ---- operations

-- operands of bits of one width, and what comes of them
abbrev pub AreBits : (width : ℕ) → (left right : ValueType) → Type 0
AreBits width left right = (left ≡ bits width) × (right ≡ bits width)

-- an operator between operands of these types has a result of this type
abbrev pub Calculates : (left right of : ValueType) → Type 0
Calculates left right of = (width : ℕ) × AreBits width left right × (of ≡ bits width)

abbrev pub Compares : (left right of : ValueType) → Type 0
Compares left right of = (width : ℕ) × AreBits width left right × (of ≡ bits 1)

abbrev pub Equates : (left right of : ValueType) → Type 0
Equates left right of = (left ≡ right) × (of ≡ bits 1)

abbrev pub Joins : (left right of : ValueType) → Type 0
Joins left right of = (high : ℕ) × (low : ℕ) × (left ≡ bits high) × (right ≡ bits low) × (high + low ≤ 128) × (of ≡ bits (high + low))

abbrev pub Operates : BinaryOperator → (left right of : ValueType) → Type 0
Operates binary.Or = Calculates
Operates binary.Xor = Calculates
Operates binary.And = Calculates
Operates binary.Equal = Equates
Operates binary.NotEqual = Equates
Operates binary.Less = Compares
Operates binary.LessOrEqual = Compares
Operates binary.Greater = Compares
Operates binary.GreaterOrEqual = Compares
Operates binary.Concat = Joins
Operates binary.ShiftLeft = Calculates
Operates binary.ShiftRight = Calculates
Operates binary.ShiftRightSigned = Calculates
Operates binary.Add = Calculates
Operates binary.Subtract = Calculates
Operates binary.Multiply = Calculates

-- operators after a first operand, grouped to the left
abbrev pub Chains : List BinaryOperator → (left : ValueType) → List ValueType → (of : ValueType) → Type 0
Chains [] left [] of = of ≡ left
Chains (o ∷ operators) left (right ∷ rest) of = (next : ValueType) × Operates o left right next × Chains operators next rest of
Chains operators left rest of = ⊥

-- the lowest bit of a field among those of its struct: the later fields are below it
abbrev pub lowest_of : Checked → (struct number : ℕ) → ℕ
lowest_of d struct number = sum_by (λ (f : CheckedField). width_of d f.of) (drop (number + 1) (fields_of d struct))

-- a field of a struct, an item of an array, some of the bits of a vector: what of is taken, and the type of the part
abbrev pub TakesField : Checked → (number lowest width : ℕ) → (whole of : ValueType) → Type 0
TakesField d number lowest width whole of =
    (struct : ℕ) × (field : CheckedField) × (whole ≡ of_base (base.Struct struct)) × (slice_get (fields_of d struct) number ≡ Some field) ×
    (of ≡ field.of) × (lowest ≡ lowest_of d struct number) × (width ≡ width_of d field.of)

abbrev pub TakesItem : Checked → (index width : ℕ) → (whole of : ValueType) → Type 0
TakesItem d index width whole of = (count : ℕ) × (whole ≡ array count of) × (index < count) × (width ≡ width_of d of)

abbrev pub TakesBits : (high low : ℕ) → (whole of : ValueType) → Type 0
TakesBits high low whole of = (width : ℕ) × (whole ≡ bits width) × (low ≤ high) × (high < width) × (of ≡ bits (high - low + 1))

abbrev pub Takes : Checked → Selection → (whole of : ValueType) → Type 0
Takes d (selection.Field number lowest width) = TakesField d number lowest width
Takes d (selection.Item index width) = TakesItem d index width
Takes d (selection.Bits high low) = TakesBits high low

-- a part, a part of that, and so on
abbrev pub TakesAll : Checked → List Selection → (whole of : ValueType) → Type 0
TakesAll d [] whole of = of ≡ whole
TakesAll d (s ∷ rest) whole of = (part : ValueType) × Takes d s whole part × TakesAll d rest part of

-- a part that can be replaced
abbrev pub Replaces : Checked → Selection → (whole new : ValueType) → Type 0
Replaces d (selection.Field number lowest width) whole new = TakesField d number lowest width whole new
Replaces d (selection.Item index width) whole new = TakesItem d index width whole new
Replaces d (selection.Bits high low) whole new = ⊥

-- An operation on operands of these types has a result of this type, none where it is unit. That many functions, the
-- first ones, may be called.
abbrev pub Applies : Checked → (functions : ℕ) → Operation → List ValueType → Option ValueType → Type 0
Applies d functions (operation.Unary operators) (t ∷ []) of = (width : ℕ) × (t ≡ bits width) × (of ≡ Some t)
Applies d functions (operation.Chain operators width) (t ∷ rest) of = (1 ≤ length operators) × (whole : ValueType) × Chains operators t rest whole × (of ≡ Some whole) × (width ≡ width_of d t)
Applies d functions (operation.Select selections) (t ∷ []) of = (part : ValueType) × TakesAll d selections t part × (of ≡ Some part)
Applies d functions (operation.Update one) (t ∷ new ∷ []) of = Replaces d one t new × (of ≡ Some t)
Applies d functions (operation.Struct number) types of =
    (types ≡ map (λ (f : CheckedField). f.of) (fields_of d number)) × IsType d (of_base (base.Struct number)) × (of ≡ Some (of_base (base.Struct number)))
Applies d functions operation.Array types of =
    (item : ValueType) × (types ≡ replicate (length types) item) × IsType d (array (length types) item) × (of ≡ Some (array (length types) item))
Applies d functions operation.Pack (t ∷ []) of = of ≡ Some (bits (width_of d t))
Applies d functions (operation.Unpack to) (t ∷ []) of = IsType d to × (t ≡ bits (width_of d to)) × (of ≡ Some to)
Applies d functions (operation.Extend extension width) (t ∷ []) of = (from : ℕ) × (t ≡ bits from) × (from ≤ width) × (width ≤ 128) × (of ≡ Some (bits width))
Applies d functions (operation.Compare comparison) (t ∷ u ∷ []) of = (whole : ValueType) × Compares t u whole × (of ≡ Some whole)
Applies d functions (operation.Table number) (t ∷ []) of =
    (table : Table) × (slice_get d.tables number ≡ Some table) × (t ≡ bits table.spec.in_width) × (of ≡ Some (bits table.spec.out_width))
Applies d functions (operation.Host number) types of =
    (function : Host) × (slice_get d.hosts number ≡ Some function) ×
    (types ≡ replicate (host.arity function.spec.kind) (bits (function.spec.in_width / host.arity function.spec.kind))) ×
    (of ≡ Some (bits (host.out_width function.spec.kind function.spec.in_width)))
Applies d functions (operation.Call number) types of =
    (function : CheckedFunction) × (number < functions) × (slice_get d.functions number ≡ Some function) × (types ≡ function.parameters) × (of ≡ function.result)
Applies d functions (operation.Read port register) [] of = (r : Register) × IsPort port × (slice_get d.registers register ≡ Some r) × (of ≡ Some r.of)
Applies d functions (operation.Write port register) (t ∷ []) of = (r : Register) × IsPort port × (slice_get d.registers register ≡ Some r) × (t ≡ r.of) × (of ≡ None)
Applies d functions operation.Abort [] of = of ≡ None
Applies d functions o types of = ⊥

-- ---- expressions

-- what a step of a block does: it binds a value of a type, is run for its effect, or gives the block's value
pub data Doing : Type 0 where
  Binds : (of : ValueType) → Doing
  Runs : Doing
  Gives : (of : Option ValueType) → Doing

-- nothing is after
abbrev pub IsEnd : {X : Type 0} → List X → Type 0
IsEnd [] = Unit {0}
IsEnd (x ∷ rest) = ⊥

-- a block of these steps, with names of these types bound round it, the innermost first, has a value of this type
abbrev pub StepsHaveType : {X : Type 0} → (X → List ValueType → Doing → Type 0) → List X → List ValueType → Option ValueType → Type 0
StepsHaveType does [] locals of = of ≡ None
StepsHaveType does (step ∷ rest) locals of =
    ((bound : ValueType) × does step locals (Binds bound) × StepsHaveType does rest (bound ∷ locals) of) ⊎
    (does step locals Runs × StepsHaveType does rest locals of) ⊎
    (does step locals (Gives of) × IsEnd rest)

-- an `if` has one body more than conditions, or as many and is unit
abbrev pub AreArms : (conditions bodies : ℕ) → Option ValueType → Type 0
AreArms conditions bodies of = (bodies ≡ conditions + 1) ⊎ ((bodies ≡ conditions) × (of ≡ None))

-- the outermost construct of an expression has the type, where `is` says which parts have which types
abbrev pub PartHasType : Checked → (functions : ℕ) → {X Y : Type 0} → (X → List ValueType → Doing → Type 0) → (Y → List ValueType → Option ValueType → Type 0) → Typed-F X Y → List ValueType → Option ValueType → Type 0
PartHasType d functions does is (typed.Constant v) locals of = (t : ValueType) × IsOf d v t × IsType d t × (of ≡ Some t)
PartHasType d functions does is (typed.Local index) locals of = (t : ValueType) × (slice_get locals index ≡ Some t) × (of ≡ Some t)
PartHasType d functions does is (typed.Input number) locals of = (i : Input) × (slice_get d.inputs number ≡ Some i) × (of ≡ Some i.of)
PartHasType d functions does is (typed.Apply o operands) locals of =
    (types : List ValueType) × Pairwise (λ x t. is x locals (Some t)) operands types × Applies d functions o types of
PartHasType d functions does is (typed.If conditions bodies) locals of =
    AllByRecursion (λ x. is x locals (Some (bits 1))) conditions × AllByRecursion (λ x. is x locals of) bodies × AreArms (length conditions) (length bodies) of
PartHasType d functions does is (typed.Block steps) locals of = StepsHaveType does steps locals of

abbrev pub StepDoes : {X Y : Type 0} → (Y → List ValueType → Option ValueType → Type 0) → BlockStep-F X Y → List ValueType → Doing → Type 0
StepDoes is (typed.Let v) locals (Binds of) = is v locals (Some of)
StepDoes is (typed.Do v) locals Runs = (of : Option ValueType) × is v locals of
StepDoes is (typed.Give v) locals (Gives of) = is v locals of
StepDoes is step locals doing = ⊥

-- The expression has the type, none where it is unit, with names of these types bound round it, the innermost first.
-- That many functions, the first ones, may be called.
abbrev pub HasType : Checked → (functions : ℕ) → Typed → List ValueType → Option ValueType → Type 0
HasType d functions =
    rec-Typed (List ValueType → Doing → Type 0) (List ValueType → Option ValueType → Type 0)
    (λ X Y whole_step whole does is. StepDoes is) (λ X Y whole_step whole does is. PartHasType d functions does is)

-- ---- designs

-- an enum has 1 to 128 bits
abbrev pub IsEnum : EnumDecl → Type 0
IsEnum e = IsWidth e.width

-- a base that names one of that many structs, the first ones, if it names a struct
abbrev pub IsAmong : (structs : ℕ) → BaseType → Type 0
IsAmong structs (base.Struct number) = number < structs
IsAmong structs b = Unit {0}

-- a struct has fields of types that name earlier structs, and its width is that of its fields together, where 129
-- stands for more than 128
pub record IsStruct (d : Checked) (number : ℕ) (s : Struct) : Type 0 where
  pub fields : All (λ (f : CheckedField). IsType d f.of × IsAmong number f.of.base) s.fields
  pub width : s.width ≡ min (sum_by (λ (f : CheckedField). width_of d f.of) s.fields) 129

-- a register's type is valid, and its first value is of the type
pub record IsRegister (d : Checked) (r : Register) : Type 0 where
  pub of : IsType d r.of
  pub width : r.width ≡ width_of d r.of
  pub first : IsOf d r.first r.of

pub record IsInput (d : Checked) (i : Input) : Type 0 where
  pub of : IsType d i.of
  pub width : i.width ≡ width_of d i.of

-- a function's body has its result's type, where its parameters are bound, and calls earlier functions
pub record IsFunction (d : Checked) (number : ℕ) (f : CheckedFunction) : Type 0 where
  pub parameters : All (IsType d) f.parameters
  pub result : IfSome f.result (IsType d)
  pub body : HasType d number f.body (reverse f.parameters) f.result

-- A design is well typed. Each rule's body is unit, the scheduler's nodes try rules that there are, none twice on a
-- path, and the limits are kept.
pub record IsTypedDesign (d : Checked) : Type 0 where
  pub enums : All IsEnum d.enums
  pub structs : (number : ℕ) (s : Struct) → slice_get d.structs number ≡ Some s → IsStruct d number s
  pub few_registers : length d.registers ≤ MAX_REGISTERS
  pub registers : All (IsRegister d) d.registers
  pub few_inputs : length d.inputs ≤ MAX_INPUTS
  pub inputs : All (IsInput d) d.inputs
  pub tables : All (λ (t : Table). IsTable t.spec × IsWidth t.spec.out_width) d.tables
  pub hosts : All (λ (h : Host). IsHost h.spec) d.hosts
  pub functions : (number : ℕ) (f : CheckedFunction) → slice_get d.functions number ≡ Some f → IsFunction d number f
  pub few_rules : length d.rules ≤ MAX_RULES
  pub rules : All (λ (r : CheckedRule). HasType d (length d.functions) r.body [] None) d.rules
  pub asserts : All (λ rule. rule < length d.rules) d.asserts
  pub few_nodes : length d.nodes ≤ MAX_NODES
  pub nodes : AreNodes (length d.rules) d.nodes
  pub once : TriesNoneTwice d.nodes
  pub weight : d.weight ≡ (design_size d).weight
  pub light : (design_size d).weight ≤ MAX_WEIGHT
  pub shallow : (design_size d).depth ≤ MAX_DEPTH
