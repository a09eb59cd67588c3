-- When a circuit is that of a BTOR2 file: it has the names and widths of the file's lines, and its run is the file's. The run
-- of a text, and that of a circuit, is after BTOR2 (Niemetz et al., CAV 2018).
use Rattle.std.specs.Prelude.{◌≡◌, ℕ, ◌+◌, Bool, List, ◌∷◌, All, map, Some, slice_get, unwrap_or, decimal}
use Rattle.net_graph.specs.Nets.{width_at, widths_of}
use Rattle.one_rule.specs.Stimulus.{AlwaysFits, InputVectors, inputs_of}
use Rattle.circuit_eval.specs.Circuits as circuit
use Rattle.circuit_eval.specs.Run as wired
use Rattle.circuit_eval.specs.Simulations.{after_steps, beginning}
use Rattle.circuit_eval.specs.declared.circuit.InputWire.{InputWire}
use Rattle.circuit_eval.specs.declared.circuit.OutputWire.{OutputWire}
use Rattle.circuit_eval.specs.declared.circuit.StateWire.{StateWire}
use Rattle.circuit_eval.specs.declared.circuit.Wires.{Wires}
use Rattle.btor2_text.specs.Printable.{IsPlainToken}
use Rattle.btor2_text.specs.declared.line.Line.{Line}
use Rattle.btor2_model.specs.Rules.{is_input, is_output, is_state}
use Rattle.btor2_model.specs.Run as text
use Rattle.btor2_model.specs.Scope.{id_at}
use Rattle.btor2_model.specs.declared.rule.FormRule.{FormRule}

-- the name of a line: its symbol, or else `n` and its id
abbrev pub line_name : Line → List ℕ
line_name line = unwrap_or line.symbol (110 ∷ decimal line.id)

-- the names of a text's lines of a rule
abbrev pub names_of : (FormRule → Bool) → List Line → List (List ℕ)
names_of test lines = map line_name (text.lines_by_rule test lines)

-- the widths of a text's lines of a rule
abbrev pub widths_in : (FormRule → Bool) → List Line → List ℕ
widths_in test lines = map (text.width_in lines) (text.ids_of test lines)

-- the widths of the values that outputs name
abbrev pub output_widths : List Line → List ℕ
output_widths lines = map (λ (line : Line). text.width_in lines (id_at line.arguments 0)) (text.lines_by_rule is_output lines)

-- the circuit has an input, a state and an output for each of the text's, in order and of the same names and widths
pub record HasLines (lines : List Line) (c : Wires) : Type 0 where
  pub inputs : map (λ (wire : InputWire). wire.name) c.inputs ≡ names_of is_input lines
  pub input_widths : circuit.input_widths c.inputs ≡ widths_in is_input lines
  pub states : map (λ (wire : StateWire). wire.name) c.states ≡ names_of is_state lines
  pub state_widths : circuit.state_widths c.states ≡ widths_in is_state lines
  pub outputs : map (λ (wire : OutputWire). wire.name) c.outputs ≡ names_of is_output lines
  pub output_widths : map (λ (wire : OutputWire). width_at (widths_of c.net) wire.id) c.outputs ≡ output_widths lines

-- on every stimulus for the circuit's inputs, the circuit's rows of every number of cycles are the text's
abbrev pub RunsAs : List Line → Wires → Type 0
RunsAs lines c = (stimulus : InputVectors) (n : ℕ) → stimulus.widths ≡ circuit.input_widths c.inputs → AlwaysFits stimulus
    → wired.run_of c (inputs_of stimulus) n ≡ text.run_of lines (inputs_of stimulus) n

-- on every such stimulus, each output has in each step the value that its line names, also where it is wider than one bit
abbrev pub GivesOutputs : List Line → Wires → Type 0
GivesOutputs lines c = (stimulus : InputVectors) (step : ℕ) → stimulus.widths ≡ circuit.input_widths c.inputs → AlwaysFits stimulus
    → (after_steps (inputs_of stimulus) (step + 1) 0 (beginning c)).outputs
    ≡ map (λ (line : Line). text.values_in lines (inputs_of stimulus) step (id_at line.arguments 0)) (text.lines_by_rule is_output lines)

-- each name of the circuit can be written: a byte or more, and no blank, semicolon or end of a line
pub record HasTokens (c : Wires) : Type 0 where
  pub inputs : All (λ (wire : InputWire). IsPlainToken wire.name) c.inputs
  pub states : All (λ (wire : StateWire). IsPlainToken wire.name) c.states
  pub outputs : All (λ (wire : OutputWire). IsPlainToken wire.name) c.outputs

-- the ids of lines are 1, 2, 3 and so on
abbrev pub AreCounted : List Line → Type 0
AreCounted lines = (place : ℕ) (line : Line) → slice_get lines place ≡ Some line → line.id ≡ place + 1
