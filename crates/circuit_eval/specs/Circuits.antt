-- Which wires make a circuit: a net with named inputs, states and outputs, after BTOR2 (Niemetz et al., CAV 2018).
use Rattle.std.specs.Prelude.{◌≡◌, ℕ, ◌<◌, ◌≤◌, List, map, length, All}
use Rattle.kw_bits.specs.BitVector.{BitVector, IsBits}
use Rattle.kw_bits.specs.Laws.{HasWidth}
use Rattle.net_graph.specs.Nets.{IsNet, width_at, widths_of}
use Rattle.net_graph.specs.Values.{AllRead, widths}
use Rattle.net_graph.specs.declared.node.NetOp.{NetOp}
use Rattle.circuit_eval.specs.declared.circuit.InputWire.{InputWire}
use Rattle.circuit_eval.specs.declared.circuit.OutputWire.{OutputWire}
use Rattle.circuit_eval.specs.declared.circuit.StateWire.{StateWire}
use Rattle.circuit_eval.specs.declared.circuit.Wires.{Wires}

-- the node of this number stands
abbrev pub HasNode : List NetOp → ℕ → Type 0
HasNode net id = id < length net

-- a state's first value and its next one have its width
pub record IsState (net : List NetOp) (wire : StateWire) : Type 0 where
  pub first : HasWidth wire.first wire.width
  pub next : HasNode net wire.next
  pub next_width : width_at (widths_of net) wire.next ≡ wire.width

abbrev pub IsInput : InputWire → Type 0
IsInput wire = (1 ≤ wire.width) × (wire.width ≤ 128)

abbrev pub IsOutput : List NetOp → OutputWire → Type 0
IsOutput net wire = HasNode net wire.id

-- the widths of the inputs, and of the states, in order
abbrev pub input_widths : List InputWire → List ℕ
input_widths inputs = map (λ (wire : InputWire). wire.width) inputs

abbrev pub state_widths : List StateWire → List ℕ
state_widths states = map (λ (wire : StateWire). wire.width) states

-- the wires make a circuit: its net reads only inputs and states that there are, at their widths
pub record IsCircuit (c : Wires) : Type 0 where
  pub net : IsNet c.net
  pub reads : AllRead (input_widths c.inputs) (state_widths c.states) c.net
  pub states : All (IsState c.net) c.states
  pub inputs : All IsInput c.inputs
  pub outputs : All (IsOutput c.net) c.outputs

-- one bit vector of each width
pub record AreBits (values : List BitVector) (of_widths : List ℕ) : Type 0 where
  pub widths : widths values ≡ of_widths
  pub bits : All IsBits values
