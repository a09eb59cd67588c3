-- When a circuit is that of a design: it has the names of the design's parts, and its run is the design's. The run of a
-- circuit is after BTOR2 (Niemetz et al., CAV 2018), that of a design after Kôika (Bourgeat et al., PLDI 2020).
use Rattle.std.specs.Prelude.{◌≡◌, ℕ, All, map}
use Rattle.net_graph.specs.Nets.{width_at, widths_of}
use Rattle.typed_core.specs.Widths as design
use Rattle.typed_core.specs.declared.design.InputDecl.{InputDecl}
use Rattle.typed_core.specs.declared.design.Parts.{Parts}
use Rattle.typed_core.specs.declared.design.RegDecl.{RegDecl}
use Rattle.typed_core.specs.declared.design.Rule.{Rule}
use Rattle.one_rule.specs.Run as whole
use Rattle.one_rule.specs.Stimulus.{AlwaysFits, InputVectors, StimulusFits, inputs_of}
use Rattle.circuit_eval.specs.Circuits as circuit
use Rattle.circuit_eval.specs.Run as wired
use Rattle.circuit_eval.specs.declared.circuit.InputWire.{InputWire}
use Rattle.circuit_eval.specs.declared.circuit.OutputWire.{OutputWire}
use Rattle.circuit_eval.specs.declared.circuit.StateWire.{StateWire}
use Rattle.circuit_eval.specs.declared.circuit.Wires.{Wires}

-- the circuit has an input for each of the design's, a state for each register and an output of one bit for each rule,
-- in order and of the same names and widths
pub record HasParts (d : Parts) (c : Wires) : Type 0 where
  pub inputs : map (λ (wire : InputWire). wire.name) c.inputs ≡ map (λ (decl : InputDecl). decl.name) d.inputs
  pub input_widths : circuit.input_widths c.inputs ≡ design.input_widths d
  pub states : map (λ (wire : StateWire). wire.name) c.states ≡ map (λ (decl : RegDecl). decl.name) d.regs
  pub state_widths : circuit.state_widths c.states ≡ design.register_widths d
  pub outputs : map (λ (wire : OutputWire). wire.name) c.outputs ≡ map (λ (rule : Rule). rule.name) d.rules
  pub bits : All (λ (wire : OutputWire). width_at (widths_of c.net) wire.id ≡ 1) c.outputs

-- on every stimulus for the design's inputs, the circuit's rows of every number of cycles are the design's
abbrev pub RunsAs : Parts → Wires → Type 0
RunsAs d c = (stimulus : InputVectors) (n : ℕ) → StimulusFits d stimulus → AlwaysFits stimulus
    → wired.run_of c (inputs_of stimulus) n ≡ whole.run_of d (inputs_of stimulus) n
