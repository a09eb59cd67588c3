-- What `profile` answers to a source.
use Rattle.std.specs.Prelude.{◌≡◌, ℕ, ◌⊎◌, ◌&&◌, Bool, true, false, List}
use Rattle.kw_bits.specs.declared.host.HostSpec.{HostSpec}
use Rattle.koika_check.specs.declared.checked.Checked.{Checked}
use Rattle.one_rule.specs.Stimulus.{InputVectors, inputs_of}
use Rattle.front_end.specs.Lengths.{HasNoRun, is_too_long_for}
use Rattle.front_end.specs.Sources.{IsTooLong, Spells}
use Rattle.lab_top.specs.Runs.{is_in_doubt, profile_in}
use Rattle.lab_top.specs.declared.answer.LabAnswer.{LabAnswer}
use Rattle.lab_top.specs.declared.answer.LabAnswer.TheVariants.{Usage, Refused, Written, Failed}

-- the text counts the trials of the source's design on its stimulus; whether an assertion is in doubt
pub record CountsRun (hosts : List HostSpec) (cycles : ℕ) (source text : List ℕ) (in_doubt : Bool) : Type 0 where
  pub design : Checked
  pub stimulus : InputVectors
  pub spelled : Spells hosts source design stimulus
  pub within : is_too_long_for cycles design ≡ false
  pub told : text ≡ profile_in design (inputs_of stimulus) cycles
  pub doubt : in_doubt ≡ is_in_doubt design (inputs_of stimulus) cycles

-- a strict call fails where one is
abbrev pub ShowsProfile : List HostSpec → ℕ → Bool → List ℕ → List ℕ → Bool → Type 0
ShowsProfile hosts cycles is_strict source text fails =
    (in_doubt : Bool) × CountsRun hosts cycles source text in_doubt × (fails ≡ (is_strict && in_doubt))

-- the answer of `profile`
abbrev pub AnswersProfile : List HostSpec → ℕ → Bool → List ℕ → LabAnswer → Type 0
AnswersProfile hosts cycles is_strict source Usage = ⊥
AnswersProfile hosts cycles is_strict source (Refused fault) =
    IsTooLong source fault ⊎ HasNoRun hosts cycles source fault
AnswersProfile hosts cycles is_strict source (Written text) = ShowsProfile hosts cycles is_strict source text false
AnswersProfile hosts cycles is_strict source (Failed text) = ShowsProfile hosts cycles is_strict source text true
