-- What `compile` answers to a source: a BTOR2 file (Niemetz et al., CAV 2018) that is accepted and whose own
-- run is that of the source's design, for every stimulus. It is tidy and laid out; which one is left open: any that is so
-- and runs so.
use Rattle.std.specs.Prelude.{◌≡◌, ℕ, ◌+◌, ◌≤◌, ◌⊎◌, List, length, map, Some, slice_get}
use Rattle.btor2_model.specs.Acceptance.{IsAccepted}
use Rattle.btor2_model.specs.Rules.{is_bad, is_input, is_output, is_state}
use Rattle.btor2_model.specs.Run as circuit
use Rattle.btor2_net.specs.Layout.{AreLaidOut}
use Rattle.btor2_net.specs.TidyLines.{AreTidy}
use Rattle.btor2_net.specs.Translations.{names_of, output_widths, widths_in}
use Rattle.btor2_text.specs.Printing.{text_of}
use Rattle.btor2_text.specs.Reading.{AreLinesOf}
use Rattle.btor2_text.specs.declared.line.Line.{Line}
use Rattle.koika_assert.specs.Bads.{is_violated}
use Rattle.koika_check.specs.declared.checked.Checked.{Checked}
use Rattle.koika_check.specs.declared.checked.Input.{Input}
use Rattle.koika_check.specs.declared.checked.Register.{Register}
use Rattle.koika_check.specs.declared.checked.CheckedRule.{CheckedRule}
use Rattle.one_rule.specs.Stimulus.{InputVectors, inputs_of}
use Rattle.one_rule.specs.declared.rows.Row.{Row}
use Rattle.stim_report.specs.Cuts as cuts
use Rattle.stim_report.specs.Summary.{has_fired}
use Rattle.kw_bits.specs.declared.host.HostSpec.{HostSpec}
use Rattle.koika_lower.specs.Lowering.{typed_input_widths}
use Rattle.front_end.specs.Circuits.{IsStimulusFor}
use Rattle.koika_top.specs.Btorsim.{longest_circuit}
use Rattle.front_end.specs.Marks.{marks_of}
use Rattle.front_end.specs.Sources.{IsTooLong, IsUnspelled, Spells, name_of}
use Rattle.front_end.specs.Systems as typed
use Rattle.front_end.specs.declared.answer.Answer.{Answer}
use Rattle.front_end.specs.declared.answer.Answer.TheVariants.{Usage, Refused, Written}

-- The text has an input for each of the design's, a state for each register, an output of one bit for each rule and a
-- bad line for each mark, in order and of the same names and widths.
pub record HasPartsOf (d : Checked) (lines : List Line) : Type 0 where
  pub inputs : names_of is_input lines ≡ map (λ (i : Input). i.name) d.inputs
  pub input_widths : widths_in is_input lines ≡ typed_input_widths d
  pub states : names_of is_state lines ≡ map (λ (r : Register). r.name) d.registers
  pub state_widths : widths_in is_state lines ≡ map (λ (r : Register). r.width) d.registers
  pub outputs : names_of is_output lines ≡ map name_of d.rules
  pub output_widths : output_widths lines ≡ map (λ (r : CheckedRule). 1) d.rules
  pub bads : names_of is_bad lines ≡ (marks_of d).names

-- on every stimulus for the design's inputs, the text's own rows of every number of cycles are the design's
abbrev pub CircuitRunsAs : Checked → List Line → Type 0
CircuitRunsAs d lines = (stimulus : InputVectors) (n : ℕ) → IsStimulusFor d stimulus
    → circuit.run_of lines (inputs_of stimulus) n ≡ typed.run_of d (inputs_of stimulus) n

-- and in each cycle of these rows the bad lines are violated whose rules fire
abbrev pub IsViolatedAs : Checked → List Line → Type 0
IsViolatedAs d lines = (stimulus : InputVectors) (n step : ℕ) (row : Row) → IsStimulusFor d stimulus
    → slice_get (typed.run_of d (inputs_of stimulus) n) (step + 1) ≡ Some row
    → map (is_violated lines (inputs_of stimulus) step) (circuit.lines_by_rule is_bad lines) ≡ map (λ rule. has_fired rule row) d.asserts

-- the lines are a circuit of the design
pub record AreCircuitOf (d : Checked) (lines : List Line) : Type 0 where
  pub accepted : IsAccepted lines
  pub layout : AreLaidOut lines
  pub tidy : AreTidy lines
  pub parts : HasPartsOf d lines
  pub run : CircuitRunsAs d lines
  pub violated : IsViolatedAs d lines

-- the text's lines are a circuit of the source's design, printed; the source spells a stimulus for it too
pub record ShowsCircuit (hosts : List HostSpec) (source text : List ℕ) : Type 0 where
  pub design : Checked
  pub stimulus : InputVectors
  pub spelled : Spells hosts source design stimulus
  pub lines : List Line
  pub read : AreLinesOf text lines
  pub printed : text ≡ text_of lines
  pub circuit : AreCircuitOf design lines

-- the answer of `compile`
abbrev pub AnswersCompile : List HostSpec → List ℕ → Answer → Type 0
AnswersCompile hosts source Usage = ⊥
AnswersCompile hosts source (Refused fault) = IsTooLong source fault ⊎ IsUnspelled hosts source fault
AnswersCompile hosts source (Written text) = ShowsCircuit hosts source text

-- a source of `btorsim` has the BTOR2 text of another source before its mark, that source's stimulus after it, and
-- isn't too long
pub record IsCompiledOf (hosts : List HostSpec) (source other : List ℕ) : Type 0 where
  pub text : List ℕ
  pub shows : ShowsCircuit hosts source text
  pub front : (cuts.parts_of other).design ≡ text
  pub stimulus : (cuts.parts_of other).stimulus ≡ (cuts.parts_of source).stimulus
  pub short : length other ≤ longest_circuit
