-- What the actions of operations on lowered operands evaluate to. All of it serves private functions alone.
use Rattle.std.specs.List.{AllByRecursion}
use Rattle.std.specs.Prelude.{◌≡◌, ◌≢◌, ℕ, ◌+◌, ◌-◌, ◌*◌, ◌≤◌, ◌<◌, ◌⊎◌, ◌++◌, nat_lt, if◌then◌else◌, zero, suc, map, List, [], ◌∷◌, length, Some, slice_get, slice_index_or}
use Rattle.kw_bits.specs.BitVector.{BitVector}
use Rattle.kw_bits.specs.Host as host
use Rattle.kw_bits.specs.Operators as op
use Rattle.koika_syntax.specs.declared.operator.BinaryOperator.{BinaryOperator}
use Rattle.koika_syntax.specs.declared.operator.Extension.{Extension}
use Rattle.koika_syntax.specs.declared.operator.SignedComparison.{SignedComparison}
use Rattle.koika_syntax.specs.declared.operator.UnaryOperator.{UnaryOperator}
use Rattle.typed_core.specs.Evaluation.{Environment, Evaluation, Ports, ◌>>=◌, answer_of, choose, comes_to, entry_of, evaluate, unit}
use Rattle.typed_core.specs.Valid.{ActionHasWidth, Declarations, HostHasWidth, IsPort, TableHasWidth}
use Rattle.typed_core.specs.declared.action.Action.{Action}
use Rattle.typed_core.specs.declared.action.Action.TheVariants as action
use Rattle.typed_core.specs.declared.outcome.Stopped.{Stopped}
use Rattle.koika_check.specs.Meaning.{binary_value, comparison_value, extension_value, prefixed}
use Rattle.koika_check.specs.Types.{width_of}
use Rattle.koika_check.specs.Typing.{Chains, Compares, IsType, Pairwise}
use Rattle.koika_check.specs.declared.checked.Checked.{Checked}
use Rattle.koika_check.specs.declared.checked.Host.{Host}
use Rattle.koika_check.specs.declared.checked.Table.{Table}
use Rattle.koika_check.specs.declared.typed.Operation.{Operation}
use Rattle.koika_check.specs.declared.typed.Operation.TheVariants as operation
use Rattle.koika_check.specs.declared.typed.ValueType.{ValueType}
use Rattle.koika_check.specs.declared.typed.Selection.{Selection}
use Rattle.koika_check.specs.declared.typed.Selection.TheVariants as selection
use Rattle.koika_lower.specs.inner.Actions.{ComesTo, IsSeq, IsSlice}
use Rattle.koika_lower.specs.inner.Forms.{FormFits, IsFormed, form_value}
use Rattle.koika_lower.specs.declared.forms.Form.{Form}
use Rattle.koika_lower.specs.declared.lowered.Lowered.{Lowered}
use Rattle.koika_lower.specs.declared.selecting.Range.{Range}

-- prefix operators on an operand
pub record IsPrefixed (operators : List UnaryOperator) (operand l : Lowered) : Type 0 where
  pub width : l.width ≡ operand.width
  pub means : ComesTo l.action (λ env ports locals. evaluate env ports operand.action locals >>= λ x. comes_to (prefixed operators x))
  pub typed : (d : Declarations) (widths : List ℕ) (width : ℕ) → ActionHasWidth d operand.action widths width → 1 ≤ width → ActionHasWidth d l.action widths width

-- more bits above; nothing more where the width is the same
pub record IsExtended (extension : Extension) (to : ℕ) (operand l : Lowered) : Type 0 where
  pub same : operand.width ≡ to → l ≡ operand
  pub width : l.width ≡ to
  pub means : operand.width ≢ to → ComesTo l.action (λ env ports locals. evaluate env ports operand.action locals >>= λ x. comes_to (extension_value extension x to))
  pub typed : operand.width ≢ to → (d : Declarations) (widths : List ℕ) (from : ℕ) → ActionHasWidth d operand.action widths from → 1 ≤ from → from ≤ to → to ≤ 128 →
      ActionHasWidth d l.action widths to

-- a table, and a host function, that is asked
pub record IsAskedTable (design : Checked) (number : ℕ) (operand l : Lowered) : Type 0 where
  pub width : (t : Table) → slice_get design.tables number ≡ Some t → l.width ≡ t.spec.out_width
  pub means : ComesTo l.action (λ env ports locals. evaluate env ports operand.action locals >>= λ x. comes_to (entry_of (slice_get env.externs.tables number) x))
  pub typed : (d : Declarations) (widths : List ℕ) (from width : ℕ) → ActionHasWidth d operand.action widths from → 1 ≤ from →
      TableHasWidth d.externs.tables number from width → ActionHasWidth d l.action widths width

pub record IsAskedHost (design : Checked) (number : ℕ) (operand l : Lowered) : Type 0 where
  pub width : (h : Host) → slice_get design.hosts number ≡ Some h → l.width ≡ host.out_width h.spec.kind h.spec.in_width
  pub means : ComesTo l.action (λ env ports locals. evaluate env ports operand.action locals >>= λ x. comes_to (answer_of (slice_get env.externs.hosts number) x))
  pub typed : (d : Declarations) (widths : List ℕ) (from width : ℕ) → ActionHasWidth d operand.action widths from → 1 ≤ from →
      HostHasWidth d.externs.hosts number from width → ActionHasWidth d l.action widths width

-- a write
pub record IsWritten (port register : ℕ) (value l : Lowered) : Type 0 where
  pub width : l.width ≡ 0
  pub means : ComesTo l.action (λ env ports locals. evaluate env ports value.action locals >>= λ x. ports.write port register x)
  pub typed : (d : Declarations) (widths : List ℕ) (held : ℕ) → ActionHasWidth d value.action widths held → IsPort port →
      slice_get d.regs register ≡ Some held → ActionHasWidth d l.action widths 0

-- the bits of a selected part, and of a part of a part, of a value of that many bits
abbrev pub lowest_bit : Selection → ℕ
lowest_bit (selection.Field number lowest width) = lowest
lowest_bit (selection.Item index width) = index * width
lowest_bit (selection.Bits high low) = low

abbrev pub part_width : Selection → ℕ
part_width (selection.Field number lowest width) = width
part_width (selection.Item index width) = width
part_width (selection.Bits high low) = high - low + 1

abbrev pub lowest_of_all : List Selection → ℕ
lowest_of_all [] = 0
lowest_of_all (s ∷ rest) = lowest_bit s + lowest_of_all rest

abbrev pub width_of_all : List Selection → (whole : ℕ) → ℕ
width_of_all [] whole = whole
width_of_all (s ∷ rest) whole = width_of_all rest (part_width s)

abbrev pub range_at : (lowest width : ℕ) → Range
range_at lowest width = record { lowest = lowest; width = width }

-- parts that lie within 128 bits
abbrev pub SelectionFits : Selection → Type 0
SelectionFits s = lowest_bit s + part_width s ≤ 128

abbrev pub AllFit : List Selection → (whole : ℕ) → Type 0
AllFit selections whole = AllByRecursion SelectionFits selections × (lowest_of_all selections + width_of_all selections whole ≤ 128)

-- a part of a value; the value itself where it is as wide
pub record IsSelected (selections : List Selection) (whole l : Lowered) : Type 0 where
  pub same : width_of_all selections whole.width ≡ whole.width → l ≡ whole
  pub width : l.width ≡ width_of_all selections whole.width
  pub part : width_of_all selections whole.width ≢ whole.width →
      IsSlice whole.action (lowest_of_all selections + width_of_all selections whole.width - 1) (lowest_of_all selections) l.action

-- what comes of actions of which each binds its value round those after it and a last one
abbrev pub lets : List (List BitVector → Evaluation BitVector Stopped) → (List BitVector → Evaluation BitVector Stopped) → List BitVector → Evaluation BitVector Stopped
lets [] body locals = body locals
lets (value ∷ rest) body locals = value locals >>= λ x. lets rest body (x ∷ locals)

abbrev pub LetsTyped : Declarations → List Lowered → Action → (widths : List ℕ) → (width : ℕ) → Type 0
LetsTyped d [] body widths width = ActionHasWidth d body widths width
LetsTyped d (l ∷ rest) body widths width = ActionHasWidth d l.action widths l.width × (1 ≤ l.width) × LetsTyped d rest body (l.width ∷ widths) width

abbrev pub values_of : Environment → Ports Stopped → List Lowered → List (List BitVector → Evaluation BitVector Stopped)
values_of env ports = map (λ (l : Lowered). evaluate env ports l.action)

pub record IsBound (operands : List Lowered) (body action : Action) : Type 0 where
  pub means : ComesTo action (λ env ports locals. lets (values_of env ports operands) (evaluate env ports body) locals)
  pub typed : (d : Declarations) (widths : List ℕ) (width : ℕ) → LetsTyped d operands body widths width → ActionHasWidth d action widths width

-- the innermost names one above the other, that many and one, the innermost the most significant
abbrev pub names_stacked : ℕ → List BitVector → BitVector
names_stacked zero locals = slice_index_or locals 0 unit
names_stacked (suc n) locals = op.concat (names_stacked n locals) (slice_index_or locals (suc n) unit)

-- an operand after operators: all that comes after the value so far
abbrev pub behind : List BinaryOperator → List (List BitVector → Evaluation BitVector Stopped) → BitVector → List BitVector → Evaluation BitVector Stopped
behind (o ∷ operators) (value ∷ values) x locals = value locals >>= λ y. behind operators values (binary_value o x y) locals
behind operators values x locals = comes_to x

abbrev pub chain_part : List BinaryOperator → List (List BitVector → Evaluation BitVector Stopped) → List BitVector → Evaluation BitVector Stopped
chain_part operators [] locals = comes_to unit
chain_part operators (value ∷ values) locals = value locals >>= λ x. behind operators values x locals

-- operands of these types with operators between them
abbrev pub AreOperands : Checked → List ValueType → List Lowered → Type 0
AreOperands d = Pairwise (λ t l. (l.width ≡ width_of d t) × IsType d t)

pub record IsChain (operators : List BinaryOperator) (operands : List Lowered) (l : Lowered) : Type 0 where
  pub means : length operands ≡ suc (length operators) → ComesTo l.action (λ env ports locals. chain_part operators (values_of env ports operands) locals)
  pub typed : (d : Checked) (t : ValueType) (types : List ValueType) (of : ValueType) → AreOperands d (t ∷ types) operands → Chains operators t types of →
      (l.width ≡ width_of d of) × IsType d of ×
      ((ds : Declarations) (widths : List ℕ) → AllByRecursion (λ (o : Lowered). ActionHasWidth ds o.action widths o.width) operands → ActionHasWidth ds l.action widths l.width)

-- what comes of conditions with a body each, and of what is after them
abbrev pub arms_part : (conditions bodies : List (List BitVector → Evaluation BitVector Stopped)) → (List BitVector → Evaluation BitVector Stopped) → List BitVector → Evaluation BitVector Stopped
arms_part (condition ∷ conditions) (body ∷ bodies) behind locals = condition locals >>= λ x. choose x (body locals) (arms_part conditions bodies behind locals)
arms_part conditions bodies behind locals = behind locals

pub record IsChosen (conditions bodies : List Lowered) (behind l : Lowered) : Type 0 where
  pub means : length conditions ≡ length bodies → ComesTo l.action (λ env ports locals. arms_part (values_of env ports conditions) (values_of env ports bodies) (evaluate env ports behind.action) locals)
  pub typed : length conditions ≡ length bodies → (width : ℕ) → AllByRecursion (λ (b : Lowered). b.width ≡ width) bodies → behind.width ≡ width →
      (l.width ≡ width) ×
      ((d : Declarations) (widths : List ℕ) → AllByRecursion (λ (c : Lowered). ActionHasWidth d c.action widths 1) conditions →
      AllByRecursion (λ (b : Lowered). ActionHasWidth d b.action widths width) bodies → ActionHasWidth d behind.action widths width → ActionHasWidth d l.action widths width)

-- an action that does nothing
abbrev pub idle : Lowered
idle = record { action = action.Unit; width = 0 }

pub record IsChoice (conditions bodies : List Lowered) (l : Lowered) : Type 0 where
  pub more : (init : List Lowered) (last : Lowered) → bodies ≡ init ++ last ∷ [] → length conditions ≡ length init → IsChosen conditions init last l
  pub as_many : length conditions ≡ length bodies → IsChosen conditions bodies idle l

-- one action after another, or one alone where the other does nothing
abbrev pub IsAfter : (first second l : Lowered) → Type 0
IsAfter first second l =
    ((first.action ≡ action.Unit) × (l ≡ second)) ⊎
    ((first.width ≡ 0) × (second.width ≡ 0) × (second.action ≡ action.Unit) × (l ≡ first)) ⊎
    (IsSeq first.action second.action l.action × (l.width ≡ second.width))

-- a vector of that many bits, of which some are replaced by others: those above them, the others, those below them
abbrev pub with_high : (above width : ℕ) → (whole z : BitVector) → BitVector
with_high above width whole z = if nat_lt above width then op.concat (op.slice whole (width - 1) above) z else z

abbrev pub with_low : (lowest : ℕ) → (whole z : BitVector) → BitVector
with_low lowest whole z = if nat_lt 0 lowest then op.concat z (op.slice whole (lowest - 1) 0) else z

abbrev pub with_part : Range → (width : ℕ) → (whole new : BitVector) → BitVector
with_part range width whole new = with_low range.lowest whole (with_high (range.lowest + range.width) width whole new)

-- what an action evaluates to where two names are bound, by their values
abbrev pub OfTwo : Action → (BitVector → BitVector → BitVector) → Type 0
OfTwo action value = (env : Environment) (ports : Ports Stopped) (new whole : BitVector) (locals : List BitVector) → evaluate env ports action (new ∷ whole ∷ locals) ≡ comes_to (value new whole)

-- an action with the highest, or the lowest bits of the innermost name but one beside it
pub record IsWithHigh (above width : ℕ) (part action : Action) : Type 0 where
  pub means : (value : BitVector → BitVector → BitVector) → OfTwo part value → OfTwo action (λ new whole. with_high above width whole (value new whole))
  pub typed : (d : Declarations) (widths : List ℕ) (new w : ℕ) → ActionHasWidth d part (new ∷ width ∷ widths) w → 1 ≤ w → above ≤ width → width - above + w ≤ 128 →
      ActionHasWidth d action (new ∷ width ∷ widths) (width - above + w)

pub record IsWithLow (lowest : ℕ) (part action : Action) : Type 0 where
  pub means : (value : BitVector → BitVector → BitVector) → OfTwo part value → OfTwo action (λ new whole. with_low lowest whole (value new whole))
  pub typed : (d : Declarations) (widths : List ℕ) (new width w : ℕ) → ActionHasWidth d part (new ∷ width ∷ widths) w → 1 ≤ w → lowest ≤ width → w + lowest ≤ 128 →
      ActionHasWidth d action (new ∷ width ∷ widths) (w + lowest)

-- the innermost name but one, of that many bits, with some replaced by the innermost
pub record IsReplaced (range : Range) (width : ℕ) (action : Action) : Type 0 where
  pub means : (env : Environment) (ports : Ports Stopped) (new whole : BitVector) (locals : List BitVector) → evaluate env ports action (new ∷ whole ∷ locals) ≡ comes_to (with_part range width whole new)
  pub typed : (d : Declarations) (widths : List ℕ) → 1 ≤ range.width → ActionHasWidth d action (range.width ∷ width ∷ widths) width

-- that many names of one width, one above the other
abbrev pub StackFits : (names : ℕ) → Action → Type 0
StackFits names action = (d : Declarations) (width : ℕ) (widths : List ℕ) → 1 ≤ width → names * width ≤ 128 →
    ((i : ℕ) → i < names → slice_get widths i ≡ Some width) → ActionHasWidth d action widths (names * width)

-- an array of its items, 128 at most, which are bound
pub record IsArray (items : List Lowered) (l : Lowered) : Type 0 where
  pub body : Action
  pub bound : IsBound items body l.action
  pub means : 1 ≤ length items → length items ≤ 128 → ComesTo body (λ env ports locals. comes_to (names_stacked (length items - 1) locals))
  pub typed : 1 ≤ length items → length items ≤ 128 → StackFits (length items) body
  pub width : (first : Lowered) (rest : List Lowered) → items ≡ first ∷ rest → length items ≤ 128 → length items * first.width ≤ 128 → l.width ≡ length items * first.width

-- a value with a part replaced by another, both of which are bound
pub record IsUpdated (s : Selection) (operands : List Lowered) (l : Lowered) : Type 0 where
  pub body : Action
  pub bound : IsBound operands body l.action
  pub replaced : SelectionFits s → (first : Lowered) (rest : List Lowered) → operands ≡ first ∷ rest → lowest_bit s + part_width s ≤ first.width → first.width ≤ 128 →
      IsReplaced (range_at (lowest_bit s) (part_width s)) first.width body
  pub width : (first : Lowered) (rest : List Lowered) → operands ≡ first ∷ rest → l.width ≡ first.width

-- a function's body, round which the arguments are bound
pub record IsCalled (body : Lowered) (arguments : List Lowered) (l : Lowered) : Type 0 where
  pub bound : IsBound arguments body.action l.action
  pub width : l.width ≡ body.width

-- a comparison of the last two operands
pub record IsCompared (comparison : SignedComparison) (operands : List Lowered) (l : Lowered) : Type 0 where
  pub form : Form
  pub left : Lowered
  pub right : Lowered
  pub before : List Lowered
  pub init : List Lowered
  pub last : operands ≡ before ++ right ∷ []
  pub first : before ≡ init ++ left ∷ []
  pub value : (x y : BitVector) → form_value form x y ≡ comparison_value comparison x y
  pub fits : FormFits Compares form
  pub formed : IsFormed form left right l

-- an operation, no call, on as many operands as it takes, whose numbers name what is declared
abbrev pub CanBeApplied : Checked → Operation → List Lowered → Type 0
CanBeApplied d (operation.Chain operators width) operands = length operands ≡ length operators + 1
CanBeApplied d (operation.Struct number) operands = 1 ≤ length operands
CanBeApplied d operation.Array operands = 1 ≤ length operands
CanBeApplied d (operation.Update selection) operands = 1 ≤ length operands
CanBeApplied d (operation.Compare comparison) operands = length operands ≡ 2
CanBeApplied d (operation.Table number) operands = (number < length d.tables) × (1 ≤ length operands)
CanBeApplied d (operation.Host number) operands = (number < length d.hosts) × (1 ≤ length operands)
CanBeApplied d (operation.Call number) operands = ⊥
CanBeApplied d (operation.Read port register) operands = register < length d.registers
CanBeApplied d operation.Abort operands = Unit {0}
CanBeApplied d o operands = 1 ≤ length operands
