-- What a rule of a typed tree does, over source values, after Kôika's semantics (Bourgeat et al., PLDI 2020):
-- operands from left to right, a write's value before the write, of an `if` one arm. What is read is unpacked and
-- what is written is packed, so events hold bits. Given what ports answer, it says nothing of registers or of a
-- scheduler.
use Rattle.std.specs.Prelude.{ℕ, zero, suc, ◌+◌, ◌-◌, ◌*◌, ◌/◌, map, reverse, nat_eq, if◌then◌else◌, List, [], ◌∷◌, ◌++◌, length, Option, Some, None, slice_get, slice_index_or, slice_set}
use Rattle.kw_bits.specs.BitVector.{BitVector}
use Rattle.kw_bits.specs.Operators as op
use Rattle.koika_syntax.specs.declared.operator.BinaryOperator.{BinaryOperator}
use Rattle.koika_syntax.specs.declared.operator.BinaryOperator.TheVariants as binary
use Rattle.koika_syntax.specs.declared.operator.Extension.{Extension}
use Rattle.koika_syntax.specs.declared.operator.Extension.TheVariants as extensions
use Rattle.koika_syntax.specs.declared.operator.SignedComparison.{SignedComparison}
use Rattle.koika_syntax.specs.declared.operator.SignedComparison.TheVariants as comparisons
use Rattle.koika_syntax.specs.declared.operator.UnaryOperator.{UnaryOperator}
use Rattle.koika_syntax.specs.declared.operator.UnaryOperator.TheVariants as unary
use Rattle.koika_types.specs.Values.{packed, nothing}
use Rattle.koika_types.specs.declared.value.Value.{Value}
use Rattle.koika_types.specs.declared.value.Value.TheVariants as value
use Rattle.koika_types.specs.declared.value.Value.TheOpen.{Value-F}
use Rattle.koika_types.specs.declared.value.Value.TheViews.{out-Value}
use Rattle.typed_core.specs.Evaluation.{Evaluation, ◌>>=◌, comes_to, stops, Ports, answer_of, entry_of}
use Rattle.kw_bits.specs.declared.host.HostSpec.{HostSpec}
use Rattle.kw_bits.specs.declared.table.TableSpec.{TableSpec}
use Rattle.koika_check.specs.Composites.{fields_of}
use Rattle.koika_check.specs.Types.{width_of}
use Rattle.koika_check.specs.declared.checked.Checked.{Checked}
use Rattle.koika_check.specs.declared.checked.CheckedField.{CheckedField}
use Rattle.koika_check.specs.declared.checked.CheckedFunction.{CheckedFunction}
use Rattle.koika_check.specs.declared.checked.Host.{Host}
use Rattle.koika_check.specs.declared.checked.Input.{Input}
use Rattle.koika_check.specs.declared.checked.Register.{Register}
use Rattle.koika_check.specs.declared.checked.Table.{Table}
use Rattle.koika_check.specs.declared.typed.BaseType.{BaseType}
use Rattle.koika_check.specs.declared.typed.BaseType.TheVariants as base
use Rattle.koika_check.specs.declared.typed.Operation.{Operation}
use Rattle.koika_check.specs.declared.typed.Operation.TheVariants as operation
use Rattle.koika_check.specs.declared.typed.Selection.{Selection}
use Rattle.koika_check.specs.declared.typed.Selection.TheVariants as selection
use Rattle.koika_check.specs.declared.typed.BlockStep.{BlockStep-F}
use Rattle.koika_check.specs.declared.typed.BlockStep.TheOpen as typed
use Rattle.koika_check.specs.declared.typed.Typed.{Typed, Typed-F, fold-Typed}
use Rattle.koika_check.specs.declared.typed.ValueType.{ValueType}

-- ---- values of bits

-- the numbers below a number
abbrev pub below : ℕ → List ℕ
below zero = []
below (suc n) = below n ++ n ∷ []

-- the values of fields, the first from the most significant bits
abbrev pub from_the_top : Checked → (ValueType → BitVector → Value) → List CheckedField → BitVector → List Value
from_the_top d look [] bits = []
from_the_top d look (f ∷ fields) bits =
    look f.of (op.slice bits (bits.width - 1) (bits.width - width_of d f.of)) ∷
    from_the_top d look fields (op.slice bits (bits.width - width_of d f.of - 1) 0)

-- The value of a type that has these bits, where structs are at most that many deep in one another; a deeper one has no
-- fields. An array's item 0 has the least significant bits.
abbrev pub unpacked_among : Checked → ℕ → BaseType → List ℕ → BitVector → Value
unpacked_among d structs b (n ∷ lengths) bits =
    value.Items (map (λ i. unpacked_among d structs b lengths (op.slice bits ((i + 1) * (bits.width / n) - 1) (i * (bits.width / n)))) (below n))
unpacked_among d structs (base.Bits width) [] bits = value.Number bits
unpacked_among d structs (base.Enum number) [] bits = value.Member number bits
unpacked_among d zero (base.Struct number) [] bits = value.Fields number []
unpacked_among d (suc structs) (base.Struct number) [] bits =
    value.Fields number (from_the_top d (λ t part. unpacked_among d structs t.base t.lengths part) (fields_of d number) bits)

-- the value of a type that has these bits
abbrev pub unpacked : Checked → ValueType → BitVector → Value
unpacked d t bits = unpacked_among d (length d.structs) t.base t.lengths bits

-- ---- operators

-- the value of a prefix operator
abbrev pub prefix_value : UnaryOperator → BitVector → BitVector
prefix_value unary.Not a = op.not a
prefix_value unary.Negate a = op.neg a

-- the innermost operator is the last
abbrev pub prefixed : List UnaryOperator → BitVector → BitVector
prefixed [] a = a
prefixed (o ∷ operators) a = prefix_value o (prefixed operators a)

-- the value of an operator between two operands
abbrev pub binary_value : BinaryOperator → BitVector → BitVector → BitVector
binary_value binary.Or a b = op.or a b
binary_value binary.Xor a b = op.xor a b
binary_value binary.And a b = op.and a b
binary_value binary.Equal a b = op.eq_bits a b
binary_value binary.NotEqual a b = op.not (op.eq_bits a b)
binary_value binary.Less a b = op.ult a b
binary_value binary.LessOrEqual a b = op.ulte a b
binary_value binary.Greater a b = op.ult b a
binary_value binary.GreaterOrEqual a b = op.ulte b a
binary_value binary.Concat a b = op.concat a b
binary_value binary.ShiftLeft a b = op.sll a b
binary_value binary.ShiftRight a b = op.srl a b
binary_value binary.ShiftRightSigned a b = op.sra a b
binary_value binary.Add a b = op.add a b
binary_value binary.Subtract a b = op.sub a b
binary_value binary.Multiply a b = op.mul a b

-- grouped to the left
abbrev pub chained : List BinaryOperator → BitVector → List Value → BitVector
chained (o ∷ operators) left (right ∷ rest) = chained operators (binary_value o left (packed right)) rest
chained operators left rest = left

-- the value of a signed comparison
abbrev pub comparison_value : SignedComparison → BitVector → BitVector → BitVector
comparison_value comparisons.Less a b = op.slt a b
comparison_value comparisons.LessOrEqual a b = op.slte a b
comparison_value comparisons.Greater a b = op.slt b a
comparison_value comparisons.GreaterOrEqual a b = op.slte b a

-- the value of an extension
abbrev pub extension_value : Extension → BitVector → ℕ → BitVector
extension_value extensions.Zero a width = op.zext a width
extension_value extensions.Sign a width = op.sext a width

-- ---- parts of values

-- the fields of a struct, or the items of an array
abbrev pub parts_by : Value-F Value → List Value
parts_by (Value-F.Fields number fields) = fields
parts_by (Value-F.Items items) = items
parts_by v = []

-- a value with other parts
abbrev pub with_parts : Value-F Value → List Value → Value
with_parts (Value-F.Fields number fields) parts = value.Fields number parts
with_parts (Value-F.Items items) parts = value.Items parts
with_parts (Value-F.Number bits) parts = value.Number bits
with_parts (Value-F.Member number bits) parts = value.Member number bits

-- a part of a value
abbrev pub selected : Value → Selection → Value
selected v (selection.Field number lowest width) = slice_index_or (parts_by (out-Value v)) number v
selected v (selection.Item index width) = slice_index_or (parts_by (out-Value v)) index v
selected v (selection.Bits high low) = value.Number (op.slice (packed v) high low)

-- a part of a part, and so on
abbrev pub all_selected : Value → List Selection → Value
all_selected v [] = v
all_selected v (s ∷ rest) = all_selected (selected v s) rest

-- a value with a new part
abbrev pub updated : Value → Selection → Value → Value
updated v (selection.Field number lowest width) new = with_parts (out-Value v) (slice_set (parts_by (out-Value v)) number new)
updated v (selection.Item index width) new = with_parts (out-Value v) (slice_set (parts_by (out-Value v)) index new)
updated v (selection.Bits high low) new = v

-- ---- operations

-- what an expression evaluates to, with values of the names that are bound round it, the innermost first: a value, or
-- none where it is unit
abbrev pub Meaning : Type 0 → Type 0
Meaning S = List Value → Evaluation (Option Value) S

-- what a rule is evaluated in: the design, the inputs' bits, the ports, and what the functions' bodies evaluate to
pub record RuleSetting (S : Type 0) : Type 0 where
  pub design : Checked
  pub inputs : List BitVector
  pub ports : Ports S
  pub bodies : List (Meaning S)

-- a part of a body that only gives a value
abbrev pub gives : {S : Type 0} → Value → Evaluation (Option Value) S
gives v = comes_to (Some v)

-- the bits of the first value
abbrev pub bits_of_first : List Value → BitVector
bits_of_first [] = nothing
bits_of_first (v ∷ rest) = packed v

-- the arguments of a host function, the first above the second
abbrev pub joined_arguments : BitVector → List Value → BitVector
joined_arguments bits [] = bits
joined_arguments bits (v ∷ rest) = joined_arguments (op.concat bits (packed v)) rest

-- the bits of values, one after another
abbrev pub all_joined : List Value → BitVector
all_joined [] = nothing
all_joined (v ∷ rest) = joined_arguments (packed v) rest

-- what a table answers
abbrev pub table_by : Option Table → Option TableSpec
table_by None = None
table_by (Some t) = Some t.spec

-- what a host function answers
abbrev pub host_by : Option Host → Option HostSpec
host_by None = None
host_by (Some h) = Some h.spec

-- what a function's body does
abbrev pub body_by : {S : Type 0} → Option (Meaning S) → Meaning S
body_by None locals = comes_to None
body_by (Some body) locals = body locals

-- what is read, as a value of the register's type
abbrev pub read_as : {S : Type 0} → Checked → Option Register → BitVector → Evaluation (Option Value) S
read_as d None bits = comes_to None
read_as d (Some register) bits = gives (unpacked d register.of bits)

-- what an operation on values evaluates to
abbrev pub apply : {S : Type 0} → RuleSetting S → Operation → List Value → Evaluation (Option Value) S
apply s (operation.Unary operators) values = gives (value.Number (prefixed operators (bits_of_first values)))
apply s (operation.Chain operators width) [] = comes_to None
apply s (operation.Chain operators width) (first ∷ rest) = gives (value.Number (chained operators (packed first) rest))
apply s (operation.Select selections) [] = comes_to None
apply s (operation.Select selections) (v ∷ rest) = gives (all_selected v selections)
apply s (operation.Update one) (v ∷ new ∷ rest) = gives (updated v one new)
apply s (operation.Struct number) values = gives (value.Fields number values)
apply s operation.Array values = gives (value.Items values)
apply s operation.Pack values = gives (value.Number (bits_of_first values))
apply s (operation.Unpack of) values = gives (unpacked s.design of (bits_of_first values))
apply s (operation.Extend extension width) values = gives (value.Number (extension_value extension (bits_of_first values) width))
apply s (operation.Compare comparison) (a ∷ b ∷ rest) = gives (value.Number (comparison_value comparison (packed a) (packed b)))
apply s (operation.Table number) values = gives (value.Number (entry_of (table_by (slice_get s.design.tables number)) (bits_of_first values)))
apply s (operation.Host number) values = gives (value.Number (answer_of (host_by (slice_get s.design.hosts number)) (all_joined values)))
apply s (operation.Call number) values = body_by (slice_get s.bodies number) (reverse values)
apply s (operation.Read port register) values = s.ports.read port register >>= λ bits. read_as s.design (slice_get s.design.registers register) bits
apply s (operation.Write port register) values = s.ports.write port register (bits_of_first values) >>= λ _. comes_to None
apply s operation.Abort values = stops s.ports.abort
apply s o values = comes_to None

-- ---- expressions

-- bound values and one more, if there is one
abbrev pub with_value : Option Value → List Value → List Value
with_value None values = values
with_value (Some v) values = v ∷ values

-- all operands, from left to right
abbrev pub in_turn : {S : Type 0} → List (Meaning S) → List Value → Evaluation (List Value) S
in_turn [] locals = comes_to []
in_turn (operand ∷ rest) locals = operand locals >>= λ v. in_turn rest locals >>= λ values. comes_to (with_value v values)

-- whether a condition is 1
abbrev pub number_by : Option Value → ℕ
number_by None = 0
number_by (Some v) = (packed v).number

-- the body of the first condition that is 1; else the body after them all, if there is one
abbrev pub choose : {S : Type 0} → (conditions bodies : List (Meaning S)) → Meaning S
choose (condition ∷ conditions) (body ∷ bodies) locals = condition locals >>= λ v.
    if nat_eq (number_by v) 1 then body locals else choose conditions bodies locals
choose [] (last ∷ rest) locals = last locals
choose conditions bodies locals = comes_to None

-- a step of a block, and what comes after it
abbrev pub StepMeaning : Type 0 → Type 0
StepMeaning S = Meaning S → Meaning S

-- the statements of a block, one after another
abbrev pub steps_in_turn : {S : Type 0} → List (StepMeaning S) → Meaning S
steps_in_turn [] locals = comes_to None
steps_in_turn (step ∷ rest) locals = step (steps_in_turn rest) locals

-- what a statement does, and then what follows it
abbrev pub step_step : {S : Type 0} → BlockStep-F (StepMeaning S) (Meaning S) → StepMeaning S
step_step (typed.Let v) behind locals = v locals >>= λ bound. behind (with_value bound locals)
step_step (typed.Do v) behind locals = v locals >>= λ _. behind locals
step_step (typed.Give v) behind locals = v locals

-- the value of an input, as its type has it
abbrev pub input_as : {S : Type 0} → Checked → Option Input → Option BitVector → Evaluation (Option Value) S
input_as d (Some input) (Some bits) = gives (unpacked d input.of bits)
input_as d input bits = comes_to None

-- what an expression does, by what its parts do
abbrev pub typed_step : {S : Type 0} → RuleSetting S → Typed-F (StepMeaning S) (Meaning S) → Meaning S
typed_step s (typed.Constant v) locals = gives v
typed_step s (typed.Local index) locals = comes_to (slice_get locals index)
typed_step s (typed.Input number) locals = input_as s.design (slice_get s.design.inputs number) (slice_get s.inputs number)
typed_step s (typed.Apply o operands) locals = in_turn operands locals >>= λ values. apply s o values
typed_step s (typed.If conditions bodies) locals = choose conditions bodies locals
typed_step s (typed.Block steps) locals = steps_in_turn steps locals

-- what an expression evaluates to
unfoldable pub meaning : {S : Type 0} → RuleSetting S → Typed → Meaning S
meaning {S} s = fold-Typed (StepMeaning S) (Meaning S) step_step (typed_step s)

-- what the bodies of functions evaluate to, each of which calls those before it
abbrev pub bodies_behind : {S : Type 0} → RuleSetting S → List CheckedFunction → RuleSetting S
bodies_behind s [] = s
bodies_behind s (f ∷ functions) = bodies_behind (record s { bodies = s.bodies ++ meaning s f.body ∷ [] }) functions

-- the setting of a design's rules
abbrev pub setting : {S : Type 0} → Checked → List BitVector → Ports S → RuleSetting S
setting d inputs ports = bodies_behind (record { design = d; inputs = inputs; ports = ports; bodies = [] }) d.functions

-- what the body of a rule evaluates to
abbrev pub rule_body : {S : Type 0} → Checked → List BitVector → Ports S → Typed → Evaluation (Option Value) S
rule_body d inputs ports body = meaning (setting d inputs ports) body []
