-- What a text's circuit is made of, line by line. Contracts of private functions alone cite it.
use Rattle.std.specs.Prelude.{◌≡◌, ℕ, ◌<◌, Bool, true, List, length, All, Option, option_map, unwrap_or}
use Rattle.std.specs.List.{find}
use Rattle.std.specs.Option.{option_map_or}
use Rattle.kw_bits.specs.BitVector.{BitVector, zero_at}
use Rattle.net_graph.specs.Nets.{width_at, widths_of}
use Rattle.net_graph.specs.Values.{value_at}
use Rattle.circuit_eval.specs.Circuits.{IsCircuit}
use Rattle.circuit_eval.specs.declared.circuit.InputWire.{InputWire}
use Rattle.circuit_eval.specs.declared.circuit.OutputWire.{OutputWire}
use Rattle.circuit_eval.specs.declared.circuit.StateWire.{StateWire}
use Rattle.circuit_eval.specs.declared.circuit.Wires.{Wires}
use Rattle.btor2_text.specs.declared.line.Line.{Line}
use Rattle.btor2_model.specs.Rules.{rule_of, is_init, is_input, is_next, is_output, is_state}
use Rattle.btor2_model.specs.Scope.{id_at}
use Rattle.btor2_model.specs.inner.SlowRun.{sets}
use Rattle.btor2_model.specs.Table.{value_in}
use Rattle.btor2_model.specs.declared.rule.FormRule.{FormRule}
use Rattle.btor2_net.specs.Translations.{GivesOutputs, HasLines, HasTokens, RunsAs, line_name}
use Rattle.btor2_net.specs.declared.form.Form.{Form}
use Rattle.btor2_net.specs.declared.form.Form.TheVariants as forms
use Rattle.btor2_net.specs.declared.nodes.Nodes.{Nodes}

-- the lines of a form
abbrev pub is_form : Form → FormRule → Bool
is_form forms.Input rule = is_input rule
is_form forms.State rule = is_state rule
is_form forms.Init rule = is_init rule
is_form forms.Next rule = is_next rule
is_form forms.Output rule = is_output rule

-- the id of the value that the first line of a form sets a state to
abbrev pub set_by : Form → ℕ → List Line → Option ℕ
set_by form state lines = option_map (λ (line : Line). id_at line.arguments 2) (find (sets (is_form form) state) lines)

-- the node of a value's id
abbrev pub node_of : Nodes → ℕ → ℕ
node_of n id = unwrap_or (value_in n.nodes id) 0

-- and its width
abbrev pub width_of : Nodes → ℕ → ℕ
width_of n id = width_at (widths_of n.net) (node_of n id)

-- the nodes of a form's lines stand
abbrev pub Stand : Nodes → Form → List Line → Type 0
Stand n form lines = All (λ (line : Line). is_form form (rule_of line.keyword) ≡ true → node_of n line.id < length n.net) lines

-- 0 at the width of a line
abbrev pub zero_of : Nodes → Line → BitVector
zero_of n line = zero_at (width_of n line.id)

-- the wires of lines
abbrev pub input_wire : Nodes → Line → InputWire
input_wire n line = record { name = line_name line; width = width_of n line.id }

abbrev pub output_wire : Nodes → Line → OutputWire
output_wire n line = record { name = line_name line; id = node_of n (id_at line.arguments 0) }

-- the first value of a state, by the values of nodes while inputs and states are 0
abbrev pub first_of : Nodes → List BitVector → Option ℕ → ℕ → BitVector
first_of n constants init state = option_map_or (λ id. value_at constants (node_of n id)) init (zero_at (width_of n state))

abbrev pub state_wire : Nodes → List BitVector → (ℕ → Option ℕ) → (ℕ → Option ℕ) → Line → StateWire
state_wire n constants inits nexts line =
    record { name = line_name line; width = width_of n line.id; first = first_of n constants (inits line.id) line.id; next = node_of n (unwrap_or (nexts line.id) 0) }

-- the wires make a circuit, which is the text's
pub record AreWiresOf (lines : List Line) (c : Wires) : Type 0 where
  pub circuit : IsCircuit c
  pub has_lines : HasLines lines c
  pub run : RunsAs lines c
  pub outputs : GivesOutputs lines c
  pub names : HasTokens c
