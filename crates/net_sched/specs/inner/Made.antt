-- What the private functions say to one another of the wires that are made of a whole design: those of a cycle's end, and
-- their names. No public contract cites it.
use Rattle.std.specs.Prelude.{◌≡◌, ℕ, ◌<◌, List, All, length, map, slice_index_or}
use Rattle.kw_bits.specs.BitVector.{BitVector}
use Rattle.kw_bits.specs.Laws.{HasWidth}
use Rattle.net_graph.specs.Values.{Sources, value_at}
use Rattle.net_graph.specs.declared.node.NetOp.{NetOp}
use Rattle.typed_core.specs.Alone.{after}
use Rattle.typed_core.specs.Evaluation.{unit}
use Rattle.typed_core.specs.Widths as design
use Rattle.typed_core.specs.declared.design.InputDecl.{InputDecl}
use Rattle.typed_core.specs.declared.design.Parts.{Parts}
use Rattle.typed_core.specs.declared.design.RegDecl.{RegDecl}
use Rattle.typed_core.specs.declared.design.Rule.{Rule}
use Rattle.one_rule.specs.Cycle.{is_among}
use Rattle.one_rule.specs.PortRun.{port_walk}
use Rattle.one_rule.specs.Run.{first_values}
use Rattle.circuit_eval.specs.Circuits.{IsInput, input_widths, state_widths}
use Rattle.circuit_eval.specs.Run.{first_states}
use Rattle.circuit_eval.specs.declared.circuit.InputWire.{InputWire}
use Rattle.circuit_eval.specs.declared.circuit.OutputWire.{OutputWire}
use Rattle.circuit_eval.specs.declared.circuit.StateWire.{StateWire}
use Rattle.circuit_eval.specs.declared.circuit.Wires.{Wires}
use Rattle.net_action.specs.Wires.{AreValues, HasWire, is_up}
use Rattle.net_sched.specs.inner.Cycles.{AreFlags, nth}

-- what the wires of the next values and of the flags say of a cycle
pub record Leaves (d : Parts) (net : List NetOp) (nexts fired : List ℕ) (s : Sources) (values : List BitVector) : Type 0 where
  pub regs : length s.states ≡ length (design.register_widths d) → (register : ℕ) → register < length (design.register_widths d) → value_at values (nth nexts register) ≡ slice_index_or (after (port_walk d s.inputs s.states).log s.states) register unit
  pub flags : (rule : ℕ) → rule < length d.rules → is_up values (nth fired rule) ≡ is_among (port_walk d s.inputs s.states).fired rule

-- the wires of a cycle's end: a next value for each register, and a flag for each rule
pub record AreEnds (d : Parts) (net : List NetOp) (nexts fired : List ℕ) : Type 0 where
  pub as_many : length nexts ≡ length (design.register_widths d)
  pub wires : (register : ℕ) → register < length (design.register_widths d) → HasWire net (nth nexts register) (nth (design.register_widths d) register)
  pub flags : AreFlags net (length d.rules) fired
  pub leaves : (s : Sources) (values : List BitVector) → AreValues s net values → Leaves d net nexts fired s values

-- states, inputs and outputs have the names of the design's parts, and these next values and flags
pub record AreNamed (d : Parts) (nexts fired : List ℕ) (c : Wires) : Type 0 where
  pub inputs : map (λ (wire : InputWire). wire.name) c.inputs ≡ map (λ (decl : InputDecl). decl.name) d.inputs
  pub input_widths : input_widths c.inputs ≡ design.input_widths d
  pub are_inputs : All IsInput c.inputs
  pub states : map (λ (wire : StateWire). wire.name) c.states ≡ map (λ (decl : RegDecl). decl.name) d.regs
  pub state_widths : state_widths c.states ≡ design.register_widths d
  pub first : first_states c.states ≡ first_values d
  pub fit : All (λ (wire : StateWire). HasWidth wire.first wire.width) c.states
  pub next : map (λ (wire : StateWire). wire.next) c.states ≡ nexts
  pub outputs : map (λ (wire : OutputWire). wire.name) c.outputs ≡ map (λ (rule : Rule). rule.name) d.rules
  pub ids : map (λ (wire : OutputWire). wire.id) c.outputs ≡ fired
