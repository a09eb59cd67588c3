-- What a command answers that tells of a source's design alone: the source's stimulus is checked, and isn't used.
use Rattle.std.specs.Prelude.{ℕ, ◌⊎◌, List}
use Rattle.kw_bits.specs.declared.host.HostSpec.{HostSpec}
use Rattle.koika_check.specs.declared.checked.Checked.{Checked}
use Rattle.one_rule.specs.Stimulus.{InputVectors}
use Rattle.front_end.specs.Sources.{IsTooLong, IsUnspelled, Spells}
use Rattle.lab_top.specs.declared.answer.LabAnswer.{LabAnswer}
use Rattle.lab_top.specs.declared.answer.LabAnswer.TheVariants.{Usage, Refused, Written, Failed}

-- the text is one of those that tell of the source's design
pub record TellsOf (IsTextOf : Checked → List ℕ → Type 0) (hosts : List HostSpec) (source text : List ℕ) : Type 0 where
  pub design : Checked
  pub stimulus : InputVectors
  pub spelled : Spells hosts source design stimulus
  pub told : IsTextOf design text

-- the answer of such a command
abbrev pub AnswersOf : (Checked → List ℕ → Type 0) → List HostSpec → List ℕ → LabAnswer → Type 0
AnswersOf IsTextOf hosts source Usage = ⊥
AnswersOf IsTextOf hosts source (Refused fault) = IsTooLong source fault ⊎ IsUnspelled hosts source fault
AnswersOf IsTextOf hosts source (Written text) = TellsOf IsTextOf hosts source text
AnswersOf IsTextOf hosts source (Failed text) = ⊥
