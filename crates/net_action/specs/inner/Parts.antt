-- What the functions that make wires of a rule's parts keep to. It serves private functions alone.
use Rattle.std.specs.Prelude.{◌≡◌, ℕ, ◌+◌, ◌-◌, ◌*◌, ◌≤◌, ◌<◌, Bool, true, false, List, [], ◌∷◌, length, map, Option, Some, None, slice_get, slice_set}
use Rattle.kw_bits.specs.BitVector.{BitVector}
use Rattle.kw_bits.specs.Operators as op
use Rattle.net_graph.specs.Values.{Sources, value_at}
use Rattle.net_graph.specs.declared.node.NetOp.{NetOp}
use Rattle.typed_core.specs.Evaluation.{Ending, Environment, Externs, Evaluation, Ports, Stop, Value, answer_of, apply_one, apply_two, choose, comes_to, entry_of, evaluate, unit, ◌>>=◌}
use Rattle.typed_core.specs.Valid.{ActionHasWidth, Declarations, HostHasWidth, IsPort, OneHasWidth, TableHasWidth, TwoHasWidth}
use Rattle.typed_core.specs.declared.access.Event.{Event}
use Rattle.typed_core.specs.declared.action.Action.{Action}
use Rattle.typed_core.specs.declared.action.TwoOp.{TwoOp}
use Rattle.typed_core.specs.declared.limits.TheConstants.{PORTS}
use Rattle.typed_core.specs.declared.outcome.Stopped.{Stopped}
use Rattle.one_rule.specs.PortRun.{ports_behind}
use Rattle.net_action.specs.Wires.{AreLogWires, AreValues, HasWire, LogStandsFor, PortsStandFor, is_set, is_up, written}
use Rattle.net_action.specs.declared.lookup.Asked.{Asked}
use Rattle.net_action.specs.declared.lookup.Asked.TheVariants.{Table, Host}
use Rattle.net_action.specs.declared.operation.Operation.{Operation}
use Rattle.net_action.specs.declared.operation.Operation.TheVariants.{One, Slice, Zext, Sext, Ask}
use Rattle.net_action.specs.declared.wires.LogWires.{LogWires}
use Rattle.net_action.specs.declared.wires.PortWires.{PortWires}
use Rattle.net_action.specs.declared.wires.RuleNet.{RuleNet}

-- what is asked answers, and which widths it takes and answers
abbrev pub answer_to : Externs → Asked → BitVector → BitVector
answer_to externs (Table table) x = entry_of (slice_get externs.tables table) x
answer_to externs (Host host) x = answer_of (slice_get externs.hosts host) x

abbrev pub AskedHasWidth : Externs → Asked → ℕ → ℕ → Type 0
AskedHasWidth externs (Table table) operand width = TableHasWidth externs.tables table operand width
AskedHasWidth externs (Host host) operand width = HostHasWidth externs.hosts host operand width

-- a wire of this width, and none where the width is 0
abbrev pub WireFits : List NetOp → ℕ → Option ℕ → Type 0
WireFits net width None = width ≡ 0
WireFits net width (Some wire) = HasWire net wire width

-- the value of a wire, and no bits where there is none
abbrev pub wire_value : List BitVector → Option ℕ → BitVector
wire_value values None = unit
wire_value values (Some wire) = value_at values wire

-- the wires of names that are bound, of these widths
abbrev pub HaveWires : List NetOp → List ℕ → List ℕ → Type 0
HaveWires net [] [] = Unit {0}
HaveWires net (width ∷ widths) (wire ∷ wires) = HasWire net wire width × HaveWires net widths wires
HaveWires net _ _ = ⊥

abbrev pub values_at : List BitVector → List ℕ → List BitVector
values_at values wires = map (value_at values) wires

-- a rule that has come so far, as wires
pub record IsRunning (net : List NetOp) (widths : List ℕ) (run : RuleNet) : Type 0 where
  pub fires : HasWire net run.fires 1
  pub log : AreLogWires net widths run.log

-- the logs' wires have equal values
pub record SameLog (widths : List ℕ) (values : List BitVector) (old new : LogWires) : Type 0 where
  pub flags : (write : Bool) (port register : ℕ) → IsPort port → register < length widths → is_set values new write port register ≡ is_set values old write port register
  pub value : (port register : ℕ) → IsPort port → register < length widths → written values new port register ≡ written values old port register

-- where the rule runs on, it evaluated to the value of the wire, and the wires stand for the events
abbrev pub ComesTo : List ℕ → List BitVector → RuleNet → Option ℕ → List Event → Ending BitVector Stopped → Type 0
ComesTo widths values run wire events (Value value) = (is_up values run.fires ≡ true) × LogStandsFor widths values run.log events × (value ≡ wire_value values wire)
ComesTo widths values run wire events (Stop cause) = is_up values run.fires ≡ false

-- The wires of a part: where the rule runs before it, they have what the part evaluates to, and where it doesn't run,
-- it doesn't run afterwards and the log stays.
pub record Means (widths : List ℕ) (values : List BitVector) (old new : RuleNet) (wire : Option ℕ) (part : Evaluation BitVector Stopped) : Type 0 where
  pub runs : (events : List Event) → is_up values old.fires ≡ true → LogStandsFor widths values old.log events
      → ComesTo widths values new wire (part events).events (part events).ending
  pub stands_still : is_up values old.fires ≡ false → (is_up values new.fires ≡ false) × SameLog widths values old.log new.log

-- what parts are evaluated in
abbrev pub environment_in : Declarations → Sources → Environment
environment_in d s = record { externs = d.externs; inputs = s.inputs }

-- with names of wires, something that has widths by those of the names can be made wires
abbrev pub CanBe : (List ℕ → ℕ → Type 0) → List NetOp → List ℕ → Type 0
CanBe has_width net locals = (widths : List ℕ) × (width : ℕ) × HaveWires net widths locals × has_width widths width

-- the same of an operand, which has a value
abbrev pub CanBeOperand : Declarations → List NetOp → Action → List ℕ → Type 0
CanBeOperand d net part locals = (widths : List ℕ) × (width : ℕ) × HaveWires net widths locals × ActionHasWidth d part widths width × (1 ≤ width)

-- what something evaluates to, by what it is evaluated in
abbrev pub Meaning : Type 0
Meaning = Environment → Ports Stopped → List BitVector → Evaluation BitVector Stopped

-- the wires that were made of something with such widths and such a meaning
pub record IsMade (d : Declarations) (ports : PortWires) (old : List NetOp) (before : RuleNet) (has_width : List ℕ → ℕ → Type 0) (meaning : Meaning) (locals : List ℕ) (new : List NetOp) (after : RuleNet) (wire : Option ℕ) : Type 0 where
  pub running : IsRunning new d.regs after
  pub fits : (widths : List ℕ) (width : ℕ) → HaveWires old widths locals → has_width widths width → WireFits new width wire
  pub means : (s : Sources) (values : List BitVector) (events : List Event) (regs : List BitVector) → AreValues s new values → PortsStandFor d.regs values ports events regs
      → Means d.regs values before after wire (meaning (environment_in d s) (ports_behind events regs) (values_at values locals))

-- the meaning of an action
abbrev pub meaning_of : Action → Meaning
meaning_of part env ports locals = evaluate env ports part locals

-- the wires that were made of an action
abbrev pub IsPart : Declarations → PortWires → List NetOp → RuleNet → Action → List ℕ → List NetOp → RuleNet → Option ℕ → Type 0
IsPart d ports old before part locals new after wire = IsMade d ports old before (ActionHasWidth d part) (meaning_of part) locals new after wire

-- ---- forms of actions

-- which results an operation on one operand has
abbrev pub OperationHasWidth : Externs → Operation → ℕ → ℕ → Type 0
OperationHasWidth externs (One operator) operand width = (1 ≤ operand) × OneHasWidth operator operand width
OperationHasWidth externs (Slice upper lower) operand width = (lower ≤ upper) × (upper < operand) × (width ≡ upper - lower + 1)
OperationHasWidth externs (Zext to) operand width = (1 ≤ operand) × (operand ≤ to) × (to ≤ 128) × (width ≡ to)
OperationHasWidth externs (Sext to) operand width = (1 ≤ operand) × (operand ≤ to) × (to ≤ 128) × (width ≡ to)
OperationHasWidth externs (Ask asked) operand width = (1 ≤ operand) × AskedHasWidth externs asked operand width

-- and which value
abbrev pub operation_value : Externs → Operation → BitVector → BitVector
operation_value externs (One operator) x = apply_one operator x
operation_value externs (Slice upper lower) x = op.slice x upper lower
operation_value externs (Zext to) x = op.zext x to
operation_value externs (Sext to) x = op.sext x to
operation_value externs (Ask asked) x = answer_to externs asked x

abbrev pub UnaryHasWidth : Declarations → Operation → Action → List ℕ → ℕ → Type 0
UnaryHasWidth d operation a widths width = (operand : ℕ) × ActionHasWidth d a widths operand × OperationHasWidth d.externs operation operand width

abbrev pub unary_of : Operation → Action → Meaning
unary_of operation a env ports locals = evaluate env ports a locals >>= λ x. comes_to (operation_value env.externs operation x)

abbrev pub BinaryHasWidth : Declarations → TwoOp → Action → Action → List ℕ → ℕ → Type 0
BinaryHasWidth d operator a b widths width =
    (left : ℕ) × (right : ℕ) × ActionHasWidth d a widths left × ActionHasWidth d b widths right × (1 ≤ left) × (1 ≤ right) × TwoHasWidth operator left right width

abbrev pub binary_of : TwoOp → Action → Action → Meaning
binary_of operator a b env ports locals = evaluate env ports a locals >>= λ x. evaluate env ports b locals >>= λ y. comes_to (apply_two operator x y)

abbrev pub LetHasWidth : Declarations → Action → Action → List ℕ → ℕ → Type 0
LetHasWidth d value body widths width = (bound : ℕ) × ActionHasWidth d value widths bound × (1 ≤ bound) × ActionHasWidth d body (bound ∷ widths) width

abbrev pub let_of : Action → Action → Meaning
let_of value body env ports locals = evaluate env ports value locals >>= λ x. evaluate env ports body (x ∷ locals)

abbrev pub IfHasWidth : Declarations → Action → Action → Action → List ℕ → ℕ → Type 0
IfHasWidth d condition first second widths width = ActionHasWidth d condition widths 1 × ActionHasWidth d first widths width × ActionHasWidth d second widths width

abbrev pub if_of : Action → Action → Action → Meaning
if_of condition first second env ports locals =
    evaluate env ports condition locals >>= λ x. choose x (evaluate env ports first locals) (evaluate env ports second locals)

abbrev pub SequenceHasWidth : Declarations → Action → Action → List ℕ → ℕ → Type 0
SequenceHasWidth d first second widths width = (dropped : ℕ) × ActionHasWidth d first widths dropped × ActionHasWidth d second widths width

abbrev pub sequence_of : Action → Action → Meaning
sequence_of first second env ports locals = evaluate env ports first locals >>= λ _. evaluate env ports second locals

abbrev pub WriteHasWidth : Declarations → ℕ → ℕ → Action → List ℕ → ℕ → Type 0
WriteHasWidth d port register a widths width =
    (held : ℕ) × ActionHasWidth d a widths held × IsPort port × (slice_get d.regs register ≡ Some held) × (width ≡ 0)

abbrev pub write_of : ℕ → ℕ → Action → Meaning
write_of port register a env ports locals = evaluate env ports a locals >>= λ value. ports.write port register value

-- a wire of a port of a register was put in the place of another
abbrev pub Puts : List ℕ → ℕ → ℕ → List ℕ → ℕ → Type 0
Puts old port register new wire = new ≡ slice_set old (PORTS * register + port) wire
