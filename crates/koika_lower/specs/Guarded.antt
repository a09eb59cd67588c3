-- What a rule of a typed tree evaluates to where no definition takes a default: the meaning that is stuck where that of
-- `koika_check` would go on with an operand that isn't there, with too few or too many of them, with a number that names
-- nothing, or with a condition that is neither 0 nor 1. A constant is taken as it is. Well typed rules are never stuck (progress,
-- in the sense of Wright and Felleisen, 1994).
use Rattle.std.specs.Prelude.{ℕ, zero, suc, ◌+◌, ◌-◌, ◌*◌, ◌/◌, List, [], ◌∷◌, ◌++◌, map, Option, Some, None, option_map, option_and_then, if◌then◌else◌, ◌&&◌, length, nat_eq, nat_le, nat_lt, reverse, slice_get}
use Rattle.kw_bits.specs.BitVector.{BitVector}
use Rattle.kw_bits.specs.Host as host
use Rattle.kw_bits.specs.Operators as op
use Rattle.koika_syntax.specs.declared.operator.BinaryOperator.{BinaryOperator}
use Rattle.koika_types.specs.Values.{packed}
use Rattle.koika_types.specs.declared.declarations.EnumDecl.{EnumDecl}
use Rattle.koika_types.specs.declared.value.Value.{Value}
use Rattle.koika_types.specs.declared.value.Value.TheOpen.{Value-F}
use Rattle.koika_types.specs.declared.value.Value.TheVariants as value
use Rattle.koika_types.specs.declared.value.Value.TheViews.{out-Value}
use Rattle.typed_core.specs.Evaluation.{Ending, Value as Reached, Stop, Progress, Evaluation, Ports, ◌>>=◌, comes_to, stops}
use Rattle.typed_core.specs.declared.limits.TheConstants.{PORTS}
use Rattle.typed_core.specs.declared.outcome.Stopped.{Stopped}
use Rattle.koika_check.specs.Meaning.{Meaning, RuleSetting, StepMeaning, below, binary_value, comparison_value, extension_value, gives, joined_arguments, prefixed, updated, steps_in_turn}
use Rattle.koika_check.specs.Types.{width_of}
use Rattle.koika_check.specs.Typing.{IsOf}
use Rattle.koika_check.specs.declared.checked.Checked.{Checked}
use Rattle.koika_check.specs.declared.checked.CheckedField.{CheckedField}
use Rattle.koika_check.specs.declared.checked.CheckedFunction.{CheckedFunction}
use Rattle.koika_check.specs.declared.checked.Host.{Host}
use Rattle.koika_check.specs.declared.checked.Input.{Input}
use Rattle.koika_check.specs.declared.checked.Register.{Register}
use Rattle.koika_check.specs.declared.checked.Struct.{Struct}
use Rattle.koika_check.specs.declared.checked.Table.{Table}
use Rattle.koika_check.specs.declared.typed.BaseType.{BaseType}
use Rattle.koika_check.specs.declared.typed.BaseType.TheVariants as base
use Rattle.koika_check.specs.declared.typed.Operation.{Operation}
use Rattle.koika_check.specs.declared.typed.Operation.TheVariants as operation
use Rattle.koika_check.specs.declared.typed.Selection.{Selection}
use Rattle.koika_check.specs.declared.typed.Selection.TheVariants as selection
use Rattle.koika_check.specs.declared.typed.BlockStep.{BlockStep-F}
use Rattle.koika_check.specs.declared.typed.BlockStep.TheOpen as typed
use Rattle.koika_check.specs.declared.typed.Typed.{Typed, Typed-F, fold-Typed}
use Rattle.koika_check.specs.declared.typed.ValueType.{ValueType}

-- ---- being stuck

-- why an evaluation doesn't come to a value: it's stuck, or the rule is stopped
pub data Cause : Type 0 where
  Stuck : Cause
  By : (stopped : Stopped) → Cause

abbrev pub stuck : {V : Type 0} → Evaluation V Cause
stuck = stops Stuck

-- what goes on with what there has to be
abbrev pub with_some : {V W : Type 0} → (V → Evaluation W Cause) → Option V → Evaluation W Cause
with_some next None = stuck
with_some next (Some v) = next v

-- a part that is never stuck, as one that might be
abbrev pub unstuck_ending : {V : Type 0} → Ending V Stopped → Ending V Cause
unstuck_ending (Reached v) = Reached v
unstuck_ending (Stop stopped) = Stop (By stopped)

abbrev pub unstuck : {V : Type 0} → Progress V Stopped → Progress V Cause
unstuck p = record { events = p.events; ending = unstuck_ending p.ending }

abbrev pub unstuck_ports : Ports Stopped → Ports Cause
unstuck_ports ports = record {
  read = λ port register events. unstuck (ports.read port register events);
  write = λ port register bits events. unstuck (ports.write port register bits events);
  abort = By ports.abort;
}

-- ---- values of bits

-- all of the values, where each is there
abbrev pub all_some : List (Option Value) → Option (List Value)
all_some [] = Some []
all_some (None ∷ rest) = None
all_some (Some v ∷ rest) = option_map (λ vs. v ∷ vs) (all_some rest)

-- the values of fields, the first from the most significant bits
abbrev pub fields_in : Checked → (ValueType → BitVector → Option Value) → List CheckedField → BitVector → List (Option Value)
fields_in d look [] bits = []
fields_in d look (f ∷ fields) bits =
    look f.of (op.slice bits (bits.width - 1) (bits.width - width_of d f.of)) ∷
    fields_in d look fields (op.slice bits (bits.width - width_of d f.of - 1) 0)

-- The value of a type that has these bits, if the enums and structs that it names are declared, and structs are at most that
-- many deep in one another. An array's item 0 has the least significant bits.
abbrev pub unpacked_in : Checked → ℕ → BaseType → List ℕ → BitVector → Option Value
unpacked_in d structs b (n ∷ lengths) bits =
    option_map (λ vs. value.Items vs) (all_some (map (λ i. unpacked_in d structs b lengths (op.slice bits ((i + 1) * (bits.width / n) - 1) (i * (bits.width / n)))) (below n)))
unpacked_in d structs (base.Bits width) [] bits = Some (value.Number bits)
unpacked_in d structs (base.Enum number) [] bits = option_map (λ (e : EnumDecl). value.Member number bits) (slice_get d.enums number)
unpacked_in d zero (base.Struct number) [] bits = None
unpacked_in d (suc structs) (base.Struct number) [] bits =
    option_and_then (λ (s : Struct). option_map (λ vs. value.Fields number vs) (all_some (fields_in d (λ t part. unpacked_in d structs t.base t.lengths part) s.fields bits)))
    (slice_get d.structs number)

abbrev pub unpacked_if : Checked → ValueType → BitVector → Option Value
unpacked_if d t bits = unpacked_in d (length d.structs) t.base t.lengths bits

-- ---- parts of values

-- the field of this number of a struct, the item of this index of an array, and these bits of a vector
abbrev pub field_at : Value-F Value → ℕ → Option Value
field_at (Value-F.Fields struct fields) number = slice_get fields number
field_at v number = None

abbrev pub item_at : Value-F Value → ℕ → Option Value
item_at (Value-F.Items items) index = slice_get items index
item_at v index = None

abbrev pub bits_at : BitVector → (high low : ℕ) → Option Value
bits_at bits high low = if nat_le low high && nat_lt high bits.width then Some (value.Number (op.slice bits high low)) else None

abbrev pub part_at : Value → Selection → Option Value
part_at v (selection.Field number lowest width) = field_at (out-Value v) number
part_at v (selection.Item index width) = item_at (out-Value v) index
part_at v (selection.Bits high low) = bits_at (packed v) high low

abbrev pub all_at : Option Value → List Selection → Option Value
all_at None selections = None
all_at (Some v) [] = Some v
all_at (Some v) (s ∷ rest) = all_at (part_at v s) rest

-- the part that is replaced: no bits of a vector are
abbrev pub replaced_at : Value → Selection → Option Value
replaced_at v (selection.Bits high low) = None
replaced_at v s = part_at v s

-- ---- operations

-- as many operands as operators
abbrev pub chained_if : List BinaryOperator → BitVector → List Value → Option BitVector
chained_if [] left [] = Some left
chained_if (o ∷ operators) left (right ∷ rest) = chained_if operators (binary_value o left (packed right)) rest
chained_if operators left rest = None

abbrev pub gives_number : BitVector → Evaluation (Option Value) Cause
gives_number bits = gives (value.Number bits)

-- a register that is declared, at a port that there is
abbrev pub with_register : RuleSetting Cause → (port register : ℕ) → (Register → Evaluation (Option Value) Cause) → Evaluation (Option Value) Cause
with_register s port register next = if nat_lt port PORTS then with_some next (slice_get s.design.registers register) else stuck

abbrev pub guarded_apply : RuleSetting Cause → Operation → List Value → Evaluation (Option Value) Cause
guarded_apply s (operation.Unary operators) (v ∷ []) = gives_number (prefixed operators (packed v))
guarded_apply s (operation.Chain operators width) (first ∷ rest) = with_some gives_number (chained_if operators (packed first) rest)
guarded_apply s (operation.Select selections) (v ∷ []) = with_some gives (all_at (Some v) selections)
guarded_apply s (operation.Update one) (v ∷ new ∷ []) = with_some (λ _. gives (updated v one new)) (replaced_at v one)
guarded_apply s (operation.Struct number) values =
    with_some (λ (struct : Struct). if nat_eq (length values) (length struct.fields) then gives (value.Fields number values) else stuck) (slice_get s.design.structs number)
guarded_apply s operation.Array values = gives (value.Items values)
guarded_apply s operation.Pack (v ∷ []) = gives_number (packed v)
guarded_apply s (operation.Unpack of) (v ∷ []) = with_some gives (unpacked_if s.design of (packed v))
guarded_apply s (operation.Extend extension width) (v ∷ []) = gives_number (extension_value extension (packed v) width)
guarded_apply s (operation.Compare comparison) (a ∷ b ∷ []) = gives_number (comparison_value comparison (packed a) (packed b))
guarded_apply s (operation.Table number) (v ∷ []) =
    with_some (λ (t : Table). with_some gives_number (slice_get t.spec.entries (packed v).number)) (slice_get s.design.tables number)
guarded_apply s (operation.Host number) (v ∷ rest) =
    with_some (λ (h : Host). if nat_eq (length (v ∷ rest)) (host.arity h.spec.kind) then gives_number (host.value h.spec.kind (joined_arguments (packed v) rest)) else stuck)
    (slice_get s.design.hosts number)
guarded_apply s (operation.Call number) values =
    with_some (λ (f : CheckedFunction). if nat_eq (length values) (length f.parameters) then with_some (λ (body : Meaning Cause). body (reverse values)) (slice_get s.bodies number) else stuck)
    (slice_get s.design.functions number)
guarded_apply s (operation.Read port register) [] =
    with_register s port register (λ r. s.ports.read port register >>= λ bits. with_some gives (unpacked_if s.design r.of bits))
guarded_apply s (operation.Write port register) (v ∷ []) =
    with_register s port register (λ _. s.ports.write port register (packed v) >>= λ _. comes_to None)
guarded_apply s operation.Abort [] = stops s.ports.abort
guarded_apply s o values = stuck

-- ---- expressions

-- all operands, none of which is unit
abbrev pub guarded_in_turn : List (Meaning Cause) → List Value → Evaluation (List Value) Cause
guarded_in_turn [] locals = comes_to []
guarded_in_turn (operand ∷ rest) locals = operand locals >>= with_some (λ v. guarded_in_turn rest locals >>= λ values. comes_to (v ∷ values))

-- a condition is one bit
abbrev pub by_bit : {V : Type 0} → ℕ → (at_one at_zero : Evaluation V Cause) → Evaluation V Cause
by_bit number at_one at_zero = if nat_eq number 1 then at_one else (if nat_eq number 0 then at_zero else stuck)

-- as many bodies as conditions, or one more
abbrev pub guarded_choose : (conditions bodies : List (Meaning Cause)) → Meaning Cause
guarded_choose (condition ∷ conditions) (body ∷ bodies) locals = condition locals >>= with_some (λ v.
    by_bit (packed v).number (body locals) (guarded_choose conditions bodies locals))
guarded_choose [] (last ∷ []) locals = last locals
guarded_choose [] [] locals = comes_to None
guarded_choose conditions bodies locals = stuck

-- a name isn't bound to unit
abbrev pub guarded_step : BlockStep-F (StepMeaning Cause) (Meaning Cause) → StepMeaning Cause
guarded_step (typed.Let v) after locals = v locals >>= with_some (λ bound. after (bound ∷ locals))
guarded_step (typed.Do v) after locals = v locals >>= λ _. after locals
guarded_step (typed.Give v) after locals = v locals

abbrev pub guarded_part : RuleSetting Cause → Typed-F (StepMeaning Cause) (Meaning Cause) → Meaning Cause
guarded_part s (typed.Constant v) locals = gives v
guarded_part s (typed.Local index) locals = with_some gives (slice_get locals index)
guarded_part s (typed.Input number) locals =
    with_some (λ (i : Input). with_some (λ bits. with_some gives (unpacked_if s.design i.of bits)) (slice_get s.inputs number)) (slice_get s.design.inputs number)
guarded_part s (typed.Apply o operands) locals = guarded_in_turn operands locals >>= guarded_apply s o
guarded_part s (typed.If conditions bodies) locals = guarded_choose conditions bodies locals
guarded_part s (typed.Block steps) locals = steps_in_turn steps locals

unfoldable pub guarded_meaning : RuleSetting Cause → Typed → Meaning Cause
guarded_meaning s = fold-Typed (StepMeaning Cause) (Meaning Cause) guarded_step (guarded_part s)

-- functions, each of which calls those before it
abbrev pub guarded_bodies : RuleSetting Cause → List CheckedFunction → RuleSetting Cause
guarded_bodies s [] = s
guarded_bodies s (f ∷ functions) = guarded_bodies (record s { bodies = s.bodies ++ guarded_meaning s f.body ∷ [] }) functions

abbrev pub guarded_setting : Checked → List BitVector → Ports Stopped → RuleSetting Cause
guarded_setting d inputs ports =
    guarded_bodies (record { design = d; inputs = inputs; ports = unstuck_ports ports; bodies = [] }) d.functions

-- what the body of a rule evaluates to, or that it's stuck
abbrev pub guarded_body : Checked → List BitVector → Ports Stopped → Typed → Evaluation (Option Value) Cause
guarded_body d inputs ports body = guarded_meaning (guarded_setting d inputs ports) body []

-- ---- values

-- a value of the type, or none where it is unit
abbrev pub IsOfType : Checked → Option ValueType → Option Value → Type 0
IsOfType d None None = Unit {0}
IsOfType d (Some t) (Some v) = IsOf d v t
IsOfType d of v = ⊥

-- an expression ends with such a value, or stops the rule
abbrev pub EndsOfType : Checked → Option ValueType → Ending (Option Value) Stopped → Type 0
EndsOfType d of (Reached v) = IsOfType d of v
EndsOfType d of (Stop stopped) = Unit {0}
