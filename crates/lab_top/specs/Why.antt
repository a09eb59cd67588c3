-- What `why` answers to a source.
use Rattle.std.specs.Prelude.{◌≡◌, ℕ, ◌+◌, ◌-◌, ◌⊎◌, false, List, Option, None, Some}
use Rattle.kw_base.specs.declared.fault.Fault.{Fault}
use Rattle.kw_bits.specs.declared.host.HostSpec.{HostSpec}
use Rattle.koika_check.specs.declared.checked.Checked.{Checked}
use Rattle.one_rule.specs.Stimulus.{InputVectors, inputs_of}
use Rattle.front_end.specs.Lengths.{HasNoRun, is_too_long_for}
use Rattle.front_end.specs.Sources.{IsTooLong, Spells, fault_of_source}
use Rattle.lab_top.specs.Runs.{asked_of, why_text}
use Rattle.lab_top.specs.declared.answer.LabAnswer.{LabAnswer}
use Rattle.lab_top.specs.declared.answer.LabAnswer.TheVariants.{Usage, Refused, Written, Failed}

-- the last of that many cycles from this one on
abbrev pub last_of : ℕ → ℕ → ℕ
last_of cycle cycles = cycle + cycles - 1

-- 90 where no rule has the name, else the source would be answered
pub record NamesNoRule (hosts : List HostSpec) (last : ℕ) (name : Option (List ℕ)) (source : List ℕ) (fault : Fault)
    : Type 0 where
  pub is : fault ≡ fault_of_source 90
  pub design : Checked
  pub stimulus : InputVectors
  pub spelled : Spells hosts source design stimulus
  pub within : is_too_long_for last design ≡ false
  pub unknown : asked_of design name ≡ None

-- the text says why the rules of the source's design, or one of them, fired or didn't, on the source's stimulus
pub record ShowsWhy (hosts : List HostSpec) (cycle cycles : ℕ) (name : Option (List ℕ)) (source text : List ℕ)
    : Type 0 where
  pub design : Checked
  pub stimulus : InputVectors
  pub spelled : Spells hosts source design stimulus
  pub within : is_too_long_for (last_of cycle cycles) design ≡ false
  pub only : Option ℕ
  pub asked : asked_of design name ≡ Some only
  pub told : text ≡ why_text design only (inputs_of stimulus) cycle cycles

-- the answer of `why`
abbrev pub AnswersWhy : List HostSpec → ℕ → ℕ → Option (List ℕ) → List ℕ → LabAnswer → Type 0
AnswersWhy hosts cycle cycles name source Usage = ⊥
AnswersWhy hosts cycle cycles name source (Refused fault) =
    (IsTooLong source fault ⊎ HasNoRun hosts (last_of cycle cycles) source fault)
    ⊎ NamesNoRule hosts (last_of cycle cycles) name source fault
AnswersWhy hosts cycle cycles name source (Written text) = ShowsWhy hosts cycle cycles name source text
AnswersWhy hosts cycle cycles name source (Failed text) = ⊥
