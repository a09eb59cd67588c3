-- When a circuit is that of a typed design: it has the design's names and widths, and its run, which is after BTOR2
-- (Niemetz et al., CAV 2018), is the design's. Which operators it has is left open.
use Rattle.std.specs.Prelude.{◌≡◌, ℕ, map}
use Rattle.net_graph.specs.Nets.{width_at, widths_of}
use Rattle.circuit_eval.specs.Circuits as circuit
use Rattle.circuit_eval.specs.Run as wired
use Rattle.circuit_eval.specs.declared.circuit.InputWire.{InputWire}
use Rattle.circuit_eval.specs.declared.circuit.OutputWire.{OutputWire}
use Rattle.circuit_eval.specs.declared.circuit.StateWire.{StateWire}
use Rattle.circuit_eval.specs.declared.circuit.Wires.{Wires}
use Rattle.koika_check.specs.declared.checked.Checked.{Checked}
use Rattle.koika_check.specs.declared.checked.Input.{Input}
use Rattle.koika_check.specs.declared.checked.Register.{Register}
use Rattle.koika_check.specs.declared.checked.CheckedRule.{CheckedRule}
use Rattle.koika_lower.specs.Lowering.{typed_input_widths, register_widths}
use Rattle.one_rule.specs.Stimulus.{AlwaysFits, InputVectors, inputs_of}
use Rattle.front_end.specs.Sources.{name_of}
use Rattle.front_end.specs.Systems as typed

-- the stimulus is one for the design's inputs
pub record IsStimulusFor (d : Checked) (stimulus : InputVectors) : Type 0 where
  pub widths : stimulus.widths ≡ typed_input_widths d
  pub fits : AlwaysFits stimulus

-- the circuit has the design's names and widths, and on every stimulus for its inputs its run
pub record IsWiredAs (d : Checked) (c : Wires) : Type 0 where
  pub inputs : map (λ (wire : InputWire). wire.name) c.inputs ≡ map (λ (i : Input). i.name) d.inputs
  pub input_widths : circuit.input_widths c.inputs ≡ typed_input_widths d
  pub states : map (λ (wire : StateWire). wire.name) c.states ≡ map (λ (r : Register). r.name) d.registers
  pub state_widths : circuit.state_widths c.states ≡ register_widths d
  pub outputs : map (λ (wire : OutputWire). wire.name) c.outputs ≡ map name_of d.rules
  pub output_widths : map (λ (wire : OutputWire). width_at (widths_of c.net) wire.id) c.outputs ≡ map (λ (r : CheckedRule). 1) d.rules
  pub run : (stimulus : InputVectors) (n : ℕ) → IsStimulusFor d stimulus → wired.run_of c (inputs_of stimulus) n ≡ typed.run_of d (inputs_of stimulus) n
