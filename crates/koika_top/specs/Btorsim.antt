-- What a source is that holds a BTOR2 file, in front of its mark, and a stimulus after it, and what is shown of the
-- text's run. Texts and runs are those of BTOR2 (Niemetz et al., CAV 2018); the order of refusals is this project's
-- own.
use Rattle.std.specs.Prelude.{◌≡◌, ℕ, ◌<◌, ◌≤◌, ◌⊎◌, ◌==◌, Bool, true, false, List, ◌++◌, length, map, filter, Option, None, Some, Result, Ok, Err}
use Rattle.std.specs.List.{flat_map, position_from, range_with_len}
use Rattle.kw_base.specs.declared.fault.Fault.{Fault}
use Rattle.one_rule.specs.Run.{InputsByCycle}
use Rattle.one_rule.specs.Stimulus.{InputVectors, inputs_of}
use Rattle.stim_report.specs.Cuts as cuts
use Rattle.stim_report.specs.Stimuli.{stimulus_of}
use Rattle.stim_report.specs.declared.shape.NameWidth.{NameWidth}
use Rattle.stim_report.specs.declared.shape.Shape.{Shape}
use Rattle.btor2_text.specs.Reading.{AreLinesOf, IsFirstFaultOf}
use Rattle.btor2_text.specs.declared.line.Line.{Line}
use Rattle.btor2_model.specs.Acceptance.{first_fault}
use Rattle.btor2_model.specs.Rules.{is_bad, is_input, is_output, is_state}
use Rattle.btor2_model.specs.Run.{lines_by_rule, run_of, width_in}
use Rattle.btor2_model.specs.Scope.{id_at}
use Rattle.btor2_model.specs.declared.rule.FormRule.{FormRule}
use Rattle.btor2_net.specs.Translations.{line_name}
use Rattle.koika_assert.specs.Bads.{is_violated}
use Rattle.koika_assert.specs.Violations.{violated_line}
use Rattle.front_end.specs.Lengths as lengths
use Rattle.front_end.specs.Sources.{fault_of_source}
use Rattle.koika_top.specs.Sim.{rows_text}
use Rattle.front_end.specs.declared.answer.Answer.{Answer}
use Rattle.front_end.specs.declared.answer.Answer.TheVariants.{Usage, Refused, Written}
use Rattle.koika_top.specs.declared.shown.Shown.{Shown}

-- a source with a BTOR2 file may have this many bytes
abbrev pub longest_circuit : ℕ
longest_circuit = 268435456

-- ---- what a text tells of itself

-- the lines of a rule by name and width
abbrev pub named_lines : (FormRule → Bool) → List Line → List NameWidth
named_lines test lines = map (λ (line : Line). record { name = line_name line; width = width_in lines line.id }) (lines_by_rule test lines)

-- whether an output names a value of one bit
abbrev pub is_flag : List Line → Line → Bool
is_flag lines line = width_in lines (id_at line.arguments 0) == 1

-- the outputs of one bit
abbrev pub flag_lines : List Line → List Line
flag_lines lines = filter (is_flag lines) (lines_by_rule is_output lines)

-- the states stand for registers, and the outputs of one bit for rules
abbrev pub shape_of : List Line → Shape
shape_of lines = record { inputs = named_lines is_input lines; registers = named_lines is_state lines; rules = map line_name (flag_lines lines) }

-- whether a run of the text for these cycles is longer than runs may be
abbrev pub is_too_long : ℕ → List Line → Bool
is_too_long cycles lines = lengths.is_too_long cycles (length (lines_by_rule is_state lines)) (length (flag_lines lines))

-- ---- sources

-- the stimulus of a source for a text, or its first fault
abbrev pub stimulus_in : List ℕ → List Line → Result InputVectors Fault
stimulus_in source lines = let parts = cuts.parts_of source in stimulus_of (shape_of lines) parts.first_line parts.stimulus

-- the source isn't too long, and these are the lines of the text in front of its mark
pub record HoldsLines (source : List ℕ) (lines : List Line) : Type 0 where
  pub short : length source ≤ longest_circuit
  pub are : AreLinesOf (cuts.parts_of source).design lines

-- they are accepted
pub record HoldsText (source : List ℕ) (lines : List Line) : Type 0 where
  pub holds : HoldsLines source lines
  pub no_fault : first_fault lines ≡ None

-- and this is the stimulus after it
pub record HoldsRun (source : List ℕ) (lines : List Line) (stimulus : InputVectors) : Type 0 where
  pub text : HoldsText source lines
  pub given : stimulus_in source lines ≡ Ok stimulus

-- The fault with which a source is refused: 40 where it is too long, else that of the first line that is of no form,
-- else that of the first line that isn't accepted or of a state without `next`, else that of its stimulus, else 45
-- where its run is too long.
abbrev pub IsTooLong : List ℕ → Fault → Type 0
IsTooLong source fault = (fault ≡ fault_of_source 40) × (longest_circuit < length source)

-- the text has a line of no form
abbrev pub HasNoLines : List ℕ → Fault → Type 0
HasNoLines source fault = (length source ≤ longest_circuit) × IsFirstFaultOf (cuts.parts_of source).design fault

-- the lines are no circuit
abbrev pub HasNoText : List ℕ → Fault → Type 0
HasNoText source fault = (lines : List Line) × HoldsLines source lines × (first_fault lines ≡ Some fault)

-- the stimulus has a fault
abbrev pub HasNoStimulus : List ℕ → Fault → Type 0
HasNoStimulus source fault = (lines : List Line) × HoldsText source lines × (stimulus_in source lines ≡ Err fault)

-- the run is too long
abbrev pub RunsTooLong : ℕ → List ℕ → Fault → Type 0
RunsTooLong cycles source fault =
    (fault ≡ fault_of_source 45) × ((lines : List Line) × (stimulus : InputVectors) × HoldsRun source lines stimulus × (is_too_long cycles lines ≡ true))

-- one of these, in this order
abbrev pub IsRefusal : ℕ → List ℕ → Fault → Type 0
IsRefusal cycles source fault =
    IsTooLong source fault ⊎ (HasNoLines source fault ⊎ (HasNoText source fault ⊎ (HasNoStimulus source fault ⊎ RunsTooLong cycles source fault)))

-- ---- what is shown

-- the first cycle up to this one in which a bad line is violated: the cycle after a step
abbrev pub first_violated : List Line → InputsByCycle → ℕ → Line → Option ℕ
first_violated lines inputs cycles bad = position_from (λ step. is_violated lines inputs step bad) 1 (range_with_len 0 cycles)

-- a line for each bad line that is violated, in their order
abbrev pub violations : List Line → InputsByCycle → ℕ → List ℕ
violations lines inputs cycles = flat_map (λ bad. violated_line (line_name bad) (first_violated lines inputs cycles bad)) (lines_by_rule is_bad lines)

-- what is shown of a text's run for these cycles: a report or a summary, and after it the violations
abbrev pub shown_run : Shown → List Line → InputsByCycle → ℕ → List ℕ
shown_run shown lines inputs cycles = rows_text shown (shape_of lines) (run_of lines inputs cycles) ++ violations lines inputs cycles

-- the text shows the run of the source's BTOR2 file on the source's stimulus for these cycles
pub record ShowsRun (cycles : ℕ) (shown : Shown) (source text : List ℕ) : Type 0 where
  pub lines : List Line
  pub stimulus : InputVectors
  pub holds : HoldsRun source lines stimulus
  pub within : is_too_long cycles lines ≡ false
  pub told : text ≡ shown_run shown lines (inputs_of stimulus) cycles

-- the answer of `btorsim`
abbrev pub AnswersBtorsim : ℕ → Shown → List ℕ → Answer → Type 0
AnswersBtorsim cycles shown source Usage = ⊥
AnswersBtorsim cycles shown source (Refused fault) = IsRefusal cycles source fault
AnswersBtorsim cycles shown source (Written text) = ShowsRun cycles shown source text
