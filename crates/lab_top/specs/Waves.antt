-- What `waves` answers to a source.
use Rattle.std.specs.Prelude.{◌≡◌, ℕ, ◌⊎◌, false, List}
use Rattle.kw_bits.specs.declared.host.HostSpec.{HostSpec}
use Rattle.koika_check.specs.declared.checked.Checked.{Checked}
use Rattle.one_rule.specs.Stimulus.{InputVectors, inputs_of}
use Rattle.front_end.specs.Lengths.{HasNoRun, is_too_long_for}
use Rattle.front_end.specs.Sources.{IsTooLong, Spells}
use Rattle.lab_top.specs.Runs.{waves_in}
use Rattle.lab_top.specs.declared.answer.LabAnswer.{LabAnswer}
use Rattle.lab_top.specs.declared.answer.LabAnswer.TheVariants.{Usage, Refused, Written, Failed}

-- the text is the value change dump of the run of the source's design on its stimulus, for these cycles
pub record ShowsWaves (hosts : List HostSpec) (cycles : ℕ) (source text : List ℕ) : Type 0 where
  pub design : Checked
  pub stimulus : InputVectors
  pub spelled : Spells hosts source design stimulus
  pub within : is_too_long_for cycles design ≡ false
  pub told : text ≡ waves_in design (inputs_of stimulus) cycles

-- the answer of `waves`
abbrev pub AnswersWaves : List HostSpec → ℕ → List ℕ → LabAnswer → Type 0
AnswersWaves hosts cycles source Usage = ⊥
AnswersWaves hosts cycles source (Refused fault) = IsTooLong source fault ⊎ HasNoRun hosts cycles source fault
AnswersWaves hosts cycles source (Written text) = ShowsWaves hosts cycles source text
AnswersWaves hosts cycles source (Failed text) = ⊥
