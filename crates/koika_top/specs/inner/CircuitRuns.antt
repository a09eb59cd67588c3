-- When a circuit that is ready to run is that of a BTOR2 file and shows the violations of its bad lines. This serves private
-- functions alone.
use Rattle.std.specs.Prelude.{◌≡◌, ◌<◌, ◌≤◌, ◌^◌, ℕ, Bool, false, not, cond, List, [], ◌∷◌, ◌++◌, length, map}
use Rattle.std.specs.List.{range_with_len}
use Rattle.btor2_text.specs.declared.line.Line.{Line}
use Rattle.btor2_model.specs.Rules.{is_bad, is_output, rule_of}
use Rattle.btor2_model.specs.Run.{first_row, lines_by_rule, row_behind}
use Rattle.btor2_model.specs.declared.rule.FormRule.{FormRule}
use Rattle.btor2_net.specs.Translations.{GivesOutputs, HasLines, RunsAs, line_name}
use Rattle.circuit_eval.specs.Circuits.{input_widths}
use Rattle.circuit_eval.specs.Run as wired
use Rattle.circuit_eval.specs.declared.circuit.OutputWire.{OutputWire}
use Rattle.circuit_eval.specs.declared.circuit.Wires.{Wires}
use Rattle.koika_assert.specs.Bads.{ShowsBeside, is_shown, is_violated}
use Rattle.one_rule.specs.Run.{InputsByCycle}
use Rattle.one_rule.specs.Stimulus.{AlwaysFits, InputVectors, inputs_of}
use Rattle.one_rule.specs.declared.rows.Row.{Row}
use Rattle.stim_report.specs.Shapes.{widths_of}
use Rattle.stim_report.specs.declared.shape.Shape.{Shape}
use Rattle.koika_top.specs.Btorsim.{shape_of}
use Rattle.koika_top.specs.CircuitShapes as circuits

-- the text has fewer than 2^32 lines of each rule
abbrev pub HasFewLines : List Line → Type 0
HasFewLines lines = (test : FormRule → Bool) → length (lines_by_rule test lines) < 2 ^ 32

-- ---- outputs apart

-- the items that are marked
abbrev pub chosen : {X : Type 0} → List Bool → List X → List X
chosen [] items = []
chosen (mark ∷ mask) [] = []
chosen (mark ∷ mask) (item ∷ items) = cond mark (item ∷ chosen mask items) (chosen mask items)

-- and those that aren't
abbrev pub unmarked : {X : Type 0} → List Bool → List X → List X
unmarked mask items = chosen (map not mask) items

-- of each output and bad line, whether it is an output
abbrev pub output_mask : List Line → List Bool
output_mask lines = map (λ (line : Line). is_output (rule_of line.keyword)) (lines_by_rule is_shown lines)

-- the circuit has an output for each output and bad line of the text, in their order
pub record IsMixedOf (lines : List Line) (c : Wires) : Type 0 where
  pub shown : List Line
  pub shows : ShowsBeside lines shown
  pub has : HasLines shown c
  pub runs : RunsAs shown c
  pub gives : GivesOutputs shown c

-- the circuit with these outputs
abbrev pub with_outputs : Wires → List OutputWire → Wires
with_outputs c outputs = record c { outputs = outputs }

-- the same with the outputs that are marked, then those that aren't; the shape shows the first ones, the names are of the others
pub record IsParted (mixed : Wires) (mask : List Bool) (c : Wires) (shape : Shape) (names : List (List ℕ)) : Type 0 where
  pub circuit : c ≡ with_outputs mixed (chosen mask mixed.outputs ++ unmarked mask mixed.outputs)
  pub shape_is : shape ≡ circuits.shape_of (with_outputs mixed (chosen mask mixed.outputs))
  pub names_are : names ≡ map circuits.name_of (unmarked mask mixed.outputs)

-- ---- the circuit of a text

-- a row of the text with one flag more for each bad line: whether the line is violated in the step
abbrev pub row_with_bads : List Line → InputsByCycle → ℕ → Row
row_with_bads lines inputs step =
    let row = row_behind lines inputs step in
    record { regs = row.regs; fired = row.fired ++ map (is_violated lines inputs step) (lines_by_rule is_bad lines) }

abbrev pub first_with_bads : List Line → Row
first_with_bads lines =
    let row = first_row lines in
    record { regs = row.regs; fired = row.fired ++ map (λ (bad : Line). false) (lines_by_rule is_bad lines) }

-- the rows of the text's run with such flags
abbrev pub run_with_bads : List Line → InputsByCycle → ℕ → List Row
run_with_bads lines inputs n = first_with_bads lines ∷ map (row_with_bads lines inputs) (range_with_len 0 n)

-- on every stimulus for its inputs, the circuit's rows are these
abbrev pub RunsWithBads : List Line → Wires → Type 0
RunsWithBads lines c = (stimulus : InputVectors) (n : ℕ) → stimulus.widths ≡ input_widths c.inputs → AlwaysFits stimulus
    → wired.run_of c (inputs_of stimulus) n ≡ run_with_bads lines (inputs_of stimulus) n

-- the circuit runs as the text and shows the violations of its bad lines, and reports show this of the text; a stimulus for
-- what they show is one for the circuit
pub record IsCircuitOf (lines : List Line) (c : Wires) (shape : Shape) (names : List (List ℕ)) : Type 0 where
  pub runs : RunsWithBads lines c
  pub shape_is : shape ≡ shape_of lines
  pub bads : names ≡ map line_name (lines_by_rule is_bad lines)
  pub inputs : widths_of shape.inputs ≡ input_widths c.inputs
  pub registers : shape.registers ≡ (circuits.shape_of c).registers
  pub rules : length shape.rules ≤ length (circuits.shape_of c).rules
