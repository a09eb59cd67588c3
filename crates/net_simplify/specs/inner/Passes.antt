-- What the nets that are made of a circuit's net are to it. It serves private functions alone.
use Rattle.std.specs.Prelude.{◌≡◌, ℕ, ◌<◌, ◌≤◌, Bool, true, false, List, [], ◌∷◌, ◌++◌, length, map, All, Some, slice_get, slice_index_or, slice_set}
use Rattle.net_graph.specs.Laws.{Feeds}
use Rattle.net_graph.specs.Nets.{IsNet, op_width, width_at, widths_of}
use Rattle.net_graph.specs.Values.{AllRead, node_value, op_value, Reads, Sources, values_of}
use Rattle.net_graph.specs.declared.node.NetOp.{NetOp}
use Rattle.net_graph.specs.declared.node.NetOp.TheVariants.{Const, Input, State, One, Two, Slice, Uext, Sext, Ite}
use Rattle.circuit_eval.specs.Circuits.{IsCircuit}
use Rattle.circuit_eval.specs.Tidy.{operands, Serves}
use Rattle.circuit_eval.specs.declared.circuit.OutputWire.{OutputWire}
use Rattle.circuit_eval.specs.declared.circuit.StateWire.{StateWire}
use Rattle.circuit_eval.specs.declared.circuit.Wires.{Wires}
use Rattle.net_simplify.specs.inner.Forms.{IsLean}
use Rattle.net_simplify.specs.Kept.{HasOutputsOf, Keeps, RunsAs}

-- ---- nodes and their places in another net

-- the place of a node
abbrev pub nth : List ℕ → ℕ → ℕ
nth places id = slice_index_or places id 0

-- an operator on the places of its operands
abbrev pub renamed : (ℕ → ℕ) → NetOp → NetOp
renamed place (Const value) = Const value
renamed place (Input number width) = Input number width
renamed place (State number width) = State number width
renamed place (One operator a) = One operator (place a)
renamed place (Two operator a b) = Two operator (place a) (place b)
renamed place (Slice a upper lower) = Slice (place a) upper lower
renamed place (Uext a added) = Uext (place a) added
renamed place (Sext a added) = Sext (place a) added
renamed place (Ite condition a b) = Ite (place condition) (place a) (place b)

-- a node of a net has the width and the value of a node of another
pub record StandsFor (old : List NetOp) (id : ℕ) (new : List NetOp) (place : ℕ) : Type 0 where
  pub stands : place < length new
  pub width : width_at (widths_of new) place ≡ width_at (widths_of old) id
  pub value : (s : Sources) → Feeds s old → node_value s new place ≡ node_value s old id

-- a net reads nothing from outside but what another does
abbrev pub ReadsOnly : List NetOp → List NetOp → Type 0
ReadsOnly old new = (inputs states : List ℕ) → AllRead inputs states old → AllRead inputs states new

-- ---- simpler forms

-- an operator has this node in a net that has grown, and is lean still
pub record Gains (old : List NetOp) (op : NetOp) (new : List NetOp) (id : ℕ) : Type 0 where
  pub more : (nodes : List NetOp) × (new ≡ old ++ nodes)
  pub lean : IsLean new
  pub reads : (inputs states : List ℕ) → Reads inputs states op → AllRead inputs states old → AllRead inputs states new
  pub stands : id < length new
  pub width : width_at (widths_of new) id ≡ op_width (widths_of old) op
  pub value : (s : Sources) → Feeds s old → node_value s new id ≡ op_value s (values_of s old) op

-- the first nodes of a net have places in a lean one
pub record Reduces (old : List NetOp) (count : ℕ) (new : List NetOp) (places : List ℕ) : Type 0 where
  pub many : length places ≡ count
  pub lean : IsLean new
  pub reads : ReadsOnly old new
  pub each : (id : ℕ) → id < count → StandsFor old id new (nth places id)

-- ---- nodes that serve

-- whether a node is marked
abbrev pub is_marked : List Bool → ℕ → Bool
is_marked marks id = slice_index_or marks id false

-- the marks after these nodes were marked too
abbrev pub marked : List ℕ → List Bool → List Bool
marked [] marks = marks
marked (id ∷ ids) marks = marked ids (slice_set marks id true)

-- an operator's operands are marked where it is
abbrev pub MarksOperands : List Bool → NetOp → Type 0
MarksOperands marks op = All (λ a. is_marked marks a ≡ true) (operands op)

-- where what was marked serves, what is marked does
abbrev pub StaysSound : List NetOp → List Bool → List Bool → Type 0
StaysSound net before after = (c : Wires) → c.net ≡ net → ((id : ℕ) → is_marked before id ≡ true → Serves c id) → (id : ℕ) → is_marked after id ≡ true → Serves c id

-- the operands of one node were marked, if it is
pub record ClosesAt (net : List NetOp) (node : ℕ) (before after : List Bool) : Type 0 where
  pub count : length after ≡ length before
  pub kept : (id : ℕ) → is_marked before id ≡ true → is_marked after id ≡ true
  pub here : (op : NetOp) → slice_get net node ≡ Some op → is_marked after node ≡ true → MarksOperands after op
  pub above : (id : ℕ) → node ≤ id → is_marked after id ≡ true → is_marked before id ≡ true
  pub sound : StaysSound net before after

-- and so were those of each node from one on
pub record Closes (net : List NetOp) (from : ℕ) (before after : List Bool) : Type 0 where
  pub count : length after ≡ length before
  pub kept : (id : ℕ) → is_marked before id ≡ true → is_marked after id ≡ true
  pub closed : (id : ℕ) (op : NetOp) → from ≤ id → slice_get net id ≡ Some op → is_marked after id ≡ true → MarksOperands after op
  pub sound : StaysSound net before after

-- the nodes that are marked are those that serve
pub record AreServing (c : Wires) (marks : List Bool) : Type 0 where
  pub count : length marks ≡ length c.net
  pub states : All (λ (wire : StateWire). is_marked marks wire.next ≡ true) c.states
  pub outputs : All (λ (wire : OutputWire). is_marked marks wire.id ≡ true) c.outputs
  pub closed : (id : ℕ) (op : NetOp) → slice_get c.net id ≡ Some op → is_marked marks id ≡ true → MarksOperands marks op
  pub sound : (id : ℕ) → is_marked marks id ≡ true → Serves c id

-- the marked ones among the first nodes of a net are all that a net has, each at its place
pub record LaysOut (old : List NetOp) (marks : List Bool) (count : ℕ) (new : List NetOp) (places : List ℕ) : Type 0 where
  pub many : length places ≡ count
  pub is_net : IsNet new
  pub reads : ReadsOnly old new
  pub each : (id : ℕ) → id < count → is_marked marks id ≡ true → StandsFor old id new (nth places id)
  pub at : (id : ℕ) (op : NetOp) → id < count → is_marked marks id ≡ true → slice_get old id ≡ Some op → slice_get new (nth places id) ≡ Some (renamed (nth places) op)
  pub from : (place : ℕ) → place < length new → (id : ℕ) × (id < count) × (is_marked marks id ≡ true) × (nth places id ≡ place)
  pub apart : (a b : ℕ) → a < count → b < count → is_marked marks a ≡ true → is_marked marks b ≡ true → nth places a ≡ nth places b → a ≡ b

-- ---- wires over another net

abbrev pub moved_state : List ℕ → StateWire → StateWire
moved_state places wire = record { name = wire.name; width = wire.width; first = wire.first; next = nth places wire.next }

abbrev pub moved_output : List ℕ → OutputWire → OutputWire
moved_output places wire = record { name = wire.name; id = nth places wire.id }

-- the same wires over another net
abbrev pub rewired : List NetOp → List ℕ → Wires → Wires
rewired net places c = record { net = net; states = map (moved_state places) c.states; inputs = c.inputs; outputs = map (moved_output places) c.outputs }

-- a circuit whose operators are such as a tidy one may have, and which runs the same
pub record IsSimpler (old new : Wires) : Type 0 where
  pub circuit : IsCircuit new
  pub lean : IsLean new.net
  pub kept : Keeps old new
  pub run : RunsAs old new
  pub outputs : HasOutputsOf old new
