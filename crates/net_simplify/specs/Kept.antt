-- What a circuit that was simplified has of the one before: names, widths, first values and the run, which is after
-- BTOR2 (Niemetz et al., CAV 2018).
use Rattle.std.specs.Prelude.{◌≡◌, ℕ, List, map}
use Rattle.net_graph.specs.Nets.{width_at, widths_of}
use Rattle.one_rule.specs.Stimulus.{AlwaysFits, InputVectors, inputs_of}
use Rattle.circuit_eval.specs.Circuits.{input_widths, state_widths}
use Rattle.circuit_eval.specs.Run.{first_states, run_of}
use Rattle.circuit_eval.specs.Simulations.{after_steps, beginning}
use Rattle.circuit_eval.specs.declared.circuit.OutputWire.{OutputWire}
use Rattle.circuit_eval.specs.declared.circuit.StateWire.{StateWire}
use Rattle.circuit_eval.specs.declared.circuit.Wires.{Wires}

-- the widths of a circuit's outputs, in order
abbrev pub output_widths : Wires → List ℕ
output_widths c = map (λ (wire : OutputWire). width_at (widths_of c.net) wire.id) c.outputs

-- the inputs, states and outputs are those of the circuit before, in order: of the same names, widths and first values
pub record Keeps (old new : Wires) : Type 0 where
  pub inputs : new.inputs ≡ old.inputs
  pub states : map (λ (wire : StateWire). wire.name) new.states ≡ map (λ (wire : StateWire). wire.name) old.states
  pub state_widths : state_widths new.states ≡ state_widths old.states
  pub first_states : first_states new.states ≡ first_states old.states
  pub outputs : map (λ (wire : OutputWire). wire.name) new.outputs ≡ map (λ (wire : OutputWire). wire.name) old.outputs
  pub output_widths : output_widths new ≡ output_widths old

-- on every stimulus for the inputs, the rows of every number of cycles are those of the circuit before
abbrev pub RunsAs : Wires → Wires → Type 0
RunsAs old new = (stimulus : InputVectors) (n : ℕ) → stimulus.widths ≡ input_widths old.inputs → AlwaysFits stimulus
    → run_of new (inputs_of stimulus) n ≡ run_of old (inputs_of stimulus) n

-- after every number of steps on such a stimulus, each output has the value that it has in the circuit before, also where
-- it is wider than one bit
abbrev pub HasOutputsOf : Wires → Wires → Type 0
HasOutputsOf old new = (stimulus : InputVectors) (n : ℕ) → stimulus.widths ≡ input_widths old.inputs → AlwaysFits stimulus
    → (after_steps (inputs_of stimulus) n 0 (beginning new)).outputs ≡ (after_steps (inputs_of stimulus) n 0 (beginning old)).outputs
