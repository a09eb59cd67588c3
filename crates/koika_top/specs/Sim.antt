-- What `sim` answers to a source.
use Rattle.std.specs.Prelude.{◌≡◌, ℕ, ◌⊎◌, true, false, List, ◌++◌}
use Rattle.kw_base.specs.declared.fault.Fault.{Fault}
use Rattle.koika_assert.specs.Violations.{violations}
use Rattle.koika_check.specs.declared.checked.Checked.{Checked}
use Rattle.one_rule.specs.Stimulus.{InputVectors, inputs_of}
use Rattle.one_rule.specs.declared.rows.Row.{Row}
use Rattle.stim_report.specs.Report.{report}
use Rattle.stim_report.specs.Summary.{summary}
use Rattle.stim_report.specs.declared.shape.Shape.{Shape}
use Rattle.kw_bits.specs.declared.host.HostSpec.{HostSpec}
use Rattle.front_end.specs.Lengths.{HasNoRun, is_too_long_for}
use Rattle.front_end.specs.Marks.{Marks, marks_of}
use Rattle.front_end.specs.Sources.{IsTooLong, Spells, shape_of}
use Rattle.front_end.specs.Systems.{run_of}
use Rattle.front_end.specs.declared.answer.Answer.{Answer}
use Rattle.front_end.specs.declared.answer.Answer.TheVariants.{Usage, Refused, Written}
use Rattle.koika_top.specs.declared.shown.Shown.{Shown}
use Rattle.koika_top.specs.declared.shown.Shown.TheVariants.{Report, Summary}

-- what is shown of rows: a report or a summary, and after it which marked rules fired
abbrev pub rows_text : Shown → Shape → List Row → List ℕ
rows_text Report shape rows = report shape rows
rows_text Summary shape rows = summary shape rows

-- the report or the summary of rows, and which marked rules fired
abbrev pub text_of_rows : Shown → Shape → Marks → List Row → List ℕ
text_of_rows shown shape marks rows = rows_text shown shape rows ++ violations marks.names marks.rules rows

-- what is shown of a design's run on a stimulus, from its first values for these cycles
abbrev pub text_of_run : Checked → InputVectors → ℕ → Shown → List ℕ
text_of_run d stimulus cycles shown = text_of_rows shown (shape_of d) (marks_of d) (run_of d (inputs_of stimulus) cycles)

-- the text shows the run of the source's design on the source's stimulus for these cycles
pub record ShowsRun (hosts : List HostSpec) (cycles : ℕ) (shown : Shown) (source text : List ℕ) : Type 0 where
  pub design : Checked
  pub stimulus : InputVectors
  pub spelled : Spells hosts source design stimulus
  pub within : is_too_long_for cycles design ≡ false
  pub told : text ≡ text_of_run design stimulus cycles shown

-- the answer of `sim`
abbrev pub AnswersSim : List HostSpec → ℕ → Shown → List ℕ → Answer → Type 0
AnswersSim hosts cycles shown source Usage = ⊥
AnswersSim hosts cycles shown source (Refused fault) = IsTooLong source fault ⊎ HasNoRun hosts cycles source fault
AnswersSim hosts cycles shown source (Written text) = ShowsRun hosts cycles shown source text
