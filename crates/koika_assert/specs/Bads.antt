-- The `bad` lines of a BTOR2 file (Niemetz et al., CAV 2018): each marks a value of one bit, and is violated
-- in a cycle in which that value is 1. The text that shows them is this project's own.
use Rattle.std.specs.Prelude.{◌≡◌, ◌==◌, ℕ, ◌+◌, ◌||◌, Bool, false, List, [], ◌∷◌, ◌++◌, length, map, filter, slice_get, slice_index_or}
use Rattle.std.specs.List.{AllByRecursion, filter_map}
use Rattle.kw_base.specs.Place.{capped}
use Rattle.one_rule.specs.Run.{InputsByCycle}
use Rattle.btor2_text.specs.declared.keyword.Keyword.{Keyword}
use Rattle.btor2_text.specs.declared.keyword.Keyword.TheVariants as keywords
use Rattle.btor2_text.specs.declared.line.Line.{Line}
use Rattle.btor2_model.specs.Rules.{is_bad, is_input, is_output, is_state}
use Rattle.btor2_model.specs.Run.{first_row, lines_by_rule, row_behind, run_of, values_in, width_in}
use Rattle.btor2_model.specs.Scope.{id_at}
use Rattle.btor2_model.specs.declared.rule.FormRule.{FormRule}
use Rattle.btor2_net.specs.Translations.{names_of, output_widths, widths_in}

-- a bad line becomes an output
abbrev pub as_output : Keyword → Keyword
as_output keywords.Bad = keywords.Output
as_output other = other

abbrev pub turned : Line → Line
turned line = record { id = line.id; keyword = as_output line.keyword; arguments = line.arguments; symbol = line.symbol; number = line.number }

-- the lines, each bad line an output in its place
abbrev pub bads_beside_outputs : List Line → List Line
bads_beside_outputs lines = map turned lines

-- a line of an output, or a bad line
abbrev pub is_shown : FormRule → Bool
is_shown rule = is_output rule || is_bad rule

-- the line is violated in the cycle of a step
abbrev pub is_violated : List Line → InputsByCycle → ℕ → Line → Bool
is_violated lines inputs step line = (values_in lines inputs step (id_at line.arguments 0)).number == 1

-- one text has the inputs and states of the other, of the same names and widths, and the same states in each step. It has an
-- output for each output and each bad line of the other, in order, of the same value in each step. A bad line's has one bit
pub record ShowsBeside (lines shown : List Line) : Type 0 where
  pub inputs : names_of is_input shown ≡ names_of is_input lines
  pub input_widths : widths_in is_input shown ≡ widths_in is_input lines
  pub states : names_of is_state shown ≡ names_of is_state lines
  pub state_widths : widths_in is_state shown ≡ widths_in is_state lines
  pub outputs : lines_by_rule is_output shown ≡ map turned (lines_by_rule is_shown lines)
  pub widths : output_widths shown ≡ map (λ (line : Line). width_in lines (id_at line.arguments 0)) (lines_by_rule is_shown lines)
  pub one_bit : AllByRecursion (λ (bad : Line). width_in lines (id_at bad.arguments 0) ≡ 1) (lines_by_rule is_bad lines)
  pub first : (first_row shown).regs ≡ (first_row lines).regs
  pub later : (given : InputsByCycle) (step : ℕ) → (row_behind shown given step).regs ≡ (row_behind lines given step).regs
  pub values : (given : InputsByCycle) (step : ℕ)
      → map (λ (line : Line). values_in shown given step (id_at line.arguments 0)) (lines_by_rule is_output shown)
      ≡ map (λ (line : Line). values_in lines given step (id_at line.arguments 0)) (lines_by_rule is_shown lines)

-- the outputs of one bit, in order
abbrev pub flag_lines : List Line → List Line
flag_lines lines = filter (λ line. width_in lines (id_at line.arguments 0) == 1) (lines_by_rule is_output lines)

-- a bad line that marks an output's value, and has its symbol
abbrev pub bad_line : ℕ → Line → Line
bad_line id output = record { id = id; keyword = keywords.Bad; arguments = output.arguments; symbol = output.symbol; number = capped id }

-- one for each output, of ids from this one on
abbrev pub bad_lines : ℕ → List Line → List Line
bad_lines id [] = []
bad_lines id (output ∷ outputs) = bad_line id output ∷ bad_lines (id + 1) outputs

-- the outputs of one bit that have these numbers
abbrev pub marked : List Line → List ℕ → List Line
marked lines marks = filter_map (slice_get (flag_lines lines)) marks

-- the lines, and a bad line after them for each mark
abbrev pub with_bads : List Line → List ℕ → List Line
with_bads lines marks = lines ++ bad_lines (length lines + 1) (marked lines marks)

-- one text has the inputs, states and outputs of the other, of the same names and widths
pub record HasSameParts (lines other : List Line) : Type 0 where
  pub inputs : names_of is_input other ≡ names_of is_input lines
  pub input_widths : widths_in is_input other ≡ widths_in is_input lines
  pub states : names_of is_state other ≡ names_of is_state lines
  pub state_widths : widths_in is_state other ≡ widths_in is_state lines
  pub outputs : names_of is_output other ≡ names_of is_output lines
  pub output_widths : output_widths other ≡ output_widths lines

-- and its run
abbrev pub RunsAlike : List Line → List Line → Type 0
RunsAlike lines other = (inputs : InputsByCycle) (n : ℕ) → run_of other inputs n ≡ run_of lines inputs n

-- after the violations of a text's own bad lines come those of further ones: each is violated in the cycles in which
-- the flag of its mark is 1
abbrev pub ShowsMarks : List Line → List ℕ → List Line → Type 0
ShowsMarks lines marks other =
    (inputs : InputsByCycle) (step : ℕ)
    → map (is_violated other inputs step) (lines_by_rule is_bad other)
    ≡ map (is_violated lines inputs step) (lines_by_rule is_bad lines) ++ map (λ mark. slice_index_or (row_behind lines inputs step).fired mark false) marks
