-- What the wires of a net stand for: logs, what a rule runs after, and a rule, after the checks of Kôika's logs
-- (Bourgeat et al., PLDI 2020). Under some inputs and states each wire has a value; a wire of one bit is up where it
-- is 1.
use Rattle.std.specs.Prelude.{◌≡◌, ℕ, ◌+◌, ◌*◌, ◌≤◌, ◌<◌, Bool, true, false, List, length, Some, nat_eq, slice_get, slice_index_or}
use Rattle.kw_bits.specs.BitVector.{BitVector}
use Rattle.kw_bits.specs.Laws.{HasWidth}
use Rattle.net_graph.specs.Nets.{widths_of}
use Rattle.net_graph.specs.Values.{Sources, op_value, value_at}
use Rattle.net_graph.specs.declared.node.NetOp.{NetOp}
use Rattle.typed_core.specs.Evaluation.{Ending, Progress, Stop, Value, unit}
use Rattle.typed_core.specs.Valid.{IsPort}
use Rattle.typed_core.specs.declared.access.Event.{Event}
use Rattle.typed_core.specs.declared.limits.TheConstants.{PORTS}
use Rattle.typed_core.specs.declared.outcome.Stopped.{Stopped}
use Rattle.rule_log.specs.StandsFor.{Tells}
use Rattle.net_action.specs.declared.wires.LogWires.{LogWires}
use Rattle.net_action.specs.declared.wires.PortWires.{PortWires}
use Rattle.net_action.specs.declared.wires.RuleNet.{RuleNet}

-- the net has this wire, of this width
abbrev pub HasWire : List NetOp → ℕ → ℕ → Type 0
HasWire net wire width = (slice_get (widths_of net) wire ≡ Some width) × (1 ≤ width)

-- Values that a net's nodes may have under these inputs and states: each has its operator's value, of its width. Those
-- of every net that begins with this one are such values.
pub record AreValues (s : Sources) (net : List NetOp) (values : List BitVector) : Type 0 where
  pub follow : (id : ℕ) (op : NetOp) → slice_get net id ≡ Some op → value_at values id ≡ op_value s values op
  pub fit : (id width : ℕ) → HasWire net id width → HasWidth (value_at values id) width

-- the wire is 1
abbrev pub is_up : List BitVector → ℕ → Bool
is_up values wire = nat_eq (value_at values wire).number 1

-- the wire of a port of a register
abbrev pub wire_at : List ℕ → ℕ → ℕ → ℕ
wire_at wires port register = slice_index_or wires (PORTS * register + port) 0

-- the log has an access of this kind, at this port, of this register; true says a write
abbrev pub is_set : List BitVector → LogWires → Bool → ℕ → ℕ → Bool
is_set values log true port register = is_up values (wire_at log.was_written port register)
is_set values log false port register = is_up values (wire_at log.was_read port register)

-- the value of the write at this port of this register
abbrev pub written : List BitVector → LogWires → ℕ → ℕ → BitVector
written values log port register = value_at values (wire_at log.values port register)

-- with registers of these widths, the log's wires stand for these events
abbrev pub LogStandsFor : List ℕ → List BitVector → LogWires → List Event → Type 0
LogStandsFor widths values log events = Tells widths (is_set values log) (written values log) events

-- the wires stand for a cycle that began on these registers, with these events in the scheduler log
pub record PortsStandFor (widths : List ℕ) (values : List BitVector) (ports : PortWires) (events : List Event) (regs : List BitVector) : Type 0 where
  pub start : (register : ℕ) → register < length widths → value_at values (slice_index_or ports.start register 0) ≡ slice_index_or regs register unit
  pub log : LogStandsFor widths values ports.log events

-- the rule fires exactly where it reaches its end, and then its wires stand for its events
abbrev pub EndsAs : List ℕ → List BitVector → RuleNet → List Event → Ending BitVector Stopped → Type 0
EndsAs widths values rule events (Value value) = (is_up values rule.fires ≡ true) × LogStandsFor widths values rule.log events
EndsAs widths values rule events (Stop cause) = is_up values rule.fires ≡ false

abbrev pub RuleStandsFor : List ℕ → List BitVector → RuleNet → Progress BitVector Stopped → Type 0
RuleStandsFor widths values rule run = EndsAs widths values rule run.events run.ending

-- ---- wires that there are

-- the net has a flag and a value for each port of each register
pub record AreLogWires (net : List NetOp) (widths : List ℕ) (log : LogWires) : Type 0 where
  pub was_read : length log.was_read ≡ PORTS * length widths
  pub was_written : length log.was_written ≡ PORTS * length widths
  pub values : length log.values ≡ PORTS * length widths
  pub each_read : (port register : ℕ) → IsPort port → register < length widths → HasWire net (wire_at log.was_read port register) 1
  pub each_written : (port register : ℕ) → IsPort port → register < length widths → HasWire net (wire_at log.was_written port register) 1
  pub each_value : (port register width : ℕ) → IsPort port → slice_get widths register ≡ Some width → HasWire net (wire_at log.values port register) width

-- and for each register a start value
pub record ArePortWires (net : List NetOp) (widths : List ℕ) (ports : PortWires) : Type 0 where
  pub count : length ports.start ≡ length widths
  pub each_start : (register width : ℕ) → slice_get widths register ≡ Some width → HasWire net (slice_index_or ports.start register 0) width
  pub log : AreLogWires net widths ports.log
