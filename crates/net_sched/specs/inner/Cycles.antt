-- What the wires of a cycle stand for, as far as its nodes are passed. It serves private functions alone.
use Rattle.std.specs.Prelude.{◌≡◌, ℕ, ◌≤◌, ◌<◌, ◌&&◌, ◌||◌, Bool, true, false, List, [], Option, Some, None, length, slice_get, slice_index_or, if◌then◌else◌}
use Rattle.kw_bits.specs.BitVector.{BitVector}
use Rattle.net_graph.specs.declared.node.NetOp.{NetOp}
use Rattle.net_graph.specs.declared.node.NetOp.TheVariants.{State}
use Rattle.typed_core.specs.Valid.{IsPort}
use Rattle.typed_core.specs.declared.design.Next.{Next}
use Rattle.typed_core.specs.declared.design.Next.TheVariants as next
use Rattle.one_rule.specs.Cycle.{is_among}
use Rattle.one_rule.specs.PortRun.{PortState}
use Rattle.one_rule.specs.Walk.{Walk}
use Rattle.typed_core.specs.Continuations.{is_at}
use Rattle.net_action.specs.Wires.{ArePortWires, HasWire, LogStandsFor, PortsStandFor, is_set, is_up, written}
use Rattle.net_action.specs.declared.wires.LogWires.{LogWires}
use Rattle.net_sched.specs.declared.cycle.CycleWires.{CycleWires}
use Rattle.net_sched.specs.declared.visit.NodeWires.{NodeWires}

-- the wire of this number in a list
abbrev pub nth : List ℕ → ℕ → ℕ
nth wires number = slice_index_or wires number 0

-- that many wires of one bit
pub record AreFlags (net : List NetOp) (places : ℕ) (wires : List ℕ) : Type 0 where
  pub count : length wires ≡ places
  pub each : (number : ℕ) → number < places → HasWire net (nth wires number) 1

-- the nodes that read the states of these widths
pub record AreStates (net : List NetOp) (widths wires : List ℕ) : Type 0 where
  pub count : length wires ≡ length widths
  pub reads : (register : ℕ) → register < length widths → slice_get net (nth wires register) ≡ Some (State register (nth widths register))
  pub each : (register : ℕ) → register < length widths → HasWire net (nth wires register) (nth widths register)

-- the flags of a list are those of another and those of a third where it counts
abbrev pub JoinsFlags : List BitVector → List ℕ → List ℕ → Bool → ℕ → List ℕ → Type 0
JoinsFlags values first second counts count both =
    (number : ℕ) → number < count → is_up values (nth both number) ≡ (is_up values (nth first number) || (counts && is_up values (nth second number)))

-- the accesses of a log are those of a scheduler log, and a rule's where it fires
pub record Joins (widths : List ℕ) (values : List BitVector) (sched rule : LogWires) (fires : Bool) (log : LogWires) : Type 0 where
  pub flags : (write : Bool) (port register : ℕ) → IsPort port → register < length widths
      → is_set values log write port register ≡ (is_set values sched write port register || (fires && is_set values rule write port register))
  pub value : (port register : ℕ) → IsPort port → register < length widths
      → written values log port register ≡ (if fires && is_set values rule true port register then written values rule port register else written values sched port register)

-- What is made of a node, visited or not, where its rule makes this of the log, or nothing: which way the walk goes
-- on, and the log after it.
abbrev pub IsVisit : List ℕ → List BitVector → NodeWires → Bool → PortState → Option PortState → Type 0
IsVisit widths values visit false state after = (is_up values visit.fires ≡ false) × (is_up values visit.fails ≡ false) × LogStandsFor widths values visit.log state.log
IsVisit widths values visit true state None = (is_up values visit.fires ≡ false) × (is_up values visit.fails ≡ true) × LogStandsFor widths values visit.log state.log
IsVisit widths values visit true state (Some after) = (is_up values visit.fires ≡ true) × (is_up values visit.fails ≡ false) × LogStandsFor widths values visit.log after.log

-- a continuation is the end, or one of that many nodes
abbrev pub IsWithin : ℕ → Next → Type 0
IsWithin nodes (next.Node to) = to < nodes
IsWithin nodes next.End = Unit {0}

-- the net has the wires of a cycle: what a rule runs after, and a flag for each node and each rule
pub record AreCycleWires (net : List NetOp) (widths : List ℕ) (nodes rules : ℕ) (cycle : CycleWires) : Type 0 where
  pub ports : ArePortWires net widths cycle.ports
  pub visited : AreFlags net nodes cycle.visited
  pub fired : AreFlags net rules cycle.fired

-- the wires of a cycle that began on these registers stand for a walk that has reached this place past the first nodes
pub record CycleStandsFor (widths : List ℕ) (nodes rules : ℕ) (values regs : List BitVector) (cycle : CycleWires) (passed : ℕ) (walk : Walk PortState) : Type 0 where
  pub ports : PortsStandFor widths values cycle.ports walk.state.log regs
  pub visited : (node : ℕ) → passed ≤ node → node < nodes → is_up values (nth cycle.visited node) ≡ is_at node walk.at
  pub fired : (rule : ℕ) → rule < rules → is_up values (nth cycle.fired rule) ≡ is_among walk.state.fired rule

-- no access, and no rule that fired
abbrev pub nothing : PortState
nothing = record { log = []; fired = [] }
