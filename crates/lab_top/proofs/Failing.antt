-- Which calls of the lab fail, and that all is kept that is promised of a call.
use Rattle.std.proofs.Common.{◌≡◌, ◌&&◌, ℕ, Bool, true, false, Option, Some, refl, sym, ap, ◌∙◌}
use Rattle.aig_blast.specs.Aigs.{AigParts}
use Rattle.front_end.specs.Calls as calls
use Rattle.front_end.specs.declared.status.Status.{Status}
use Rattle.front_end.specs.declared.status.Status.TheVariants as plain_statuses
use Rattle.lab_top.specs.Answer.{lab}
use Rattle.lab_top.specs.Calls.{Call, FailsIfStrict, IsKept}
use Rattle.lab_top.specs.inner.Steps.{FailsBy, done_if, status_if}
use Rattle.lab_top.specs.declared.status.LabStatus.{LabStatus}
use Rattle.lab_top.specs.declared.status.LabStatus.TheVariants as statuses
use Rattle.lab_top.specs.declared.words.Command.{Command}
use Rattle.lab_top.specs.declared.words.Command.TheVariants.{Profile}
use Rattle.lab_top.proofs.Taking.{takes-spelled}

-- a status is that of a failure only where it is asked to be
failed-done : (fails : Bool) → done_if fails ≡ statuses.Failed → fails ≡ true
failed-done false e = let bad : statuses.Done ≡ statuses.Failed = e in absurd cc
failed-done true e = refl

failed-if : (fails : Bool) (ended : Status) → status_if fails ended ≡ statuses.Failed → fails ≡ true
failed-if fails plain_statuses.Done e = failed-done fails e
failed-if fails plain_statuses.Usage e = let bad : statuses.Usage ≡ statuses.Failed = e in absurd cc
failed-if fails plain_statuses.Refused e = let bad : statuses.Refused ≡ statuses.Failed = e in absurd cc
failed-if fails plain_statuses.ReadFault e = let bad : statuses.ReadFault ≡ statuses.Failed = e in absurd cc
failed-if fails plain_statuses.WriteFault e = let bad : statuses.WriteFault ≡ statuses.Failed = e in absurd cc
failed-if fails plain_statuses.NoMemory e = let bad : statuses.NoMemory ≡ statuses.Failed = e in absurd cc

module _ (ended : Status) (result : LabStatus) where
  pub never-failed : result ≡ status_if false ended → result ≡ statuses.Failed → ⊥
  never-failed is e = let bad : false ≡ true = failed-if false ended (sym is ∙ e) in absurd cc

  -- a strict call that fails was asked to be strict
  pub failed-strictly : (is_strict in_doubt fails : Bool) → fails ≡ (is_strict && in_doubt)
      → result ≡ status_if fails ended → result ≡ statuses.Failed → is_strict ≡ true
  failed-strictly true in_doubt fails by is e = refl
  failed-strictly false in_doubt fails by is e =
      let bad : false ≡ true = sym by ∙ failed-if fails ended (sym is ∙ e) in
      absurd cc

-- a call that fails by a command that the words ask for fails by the words
pub fails-asked : (command : Command) (asked : Option Command) (result : LabStatus) → asked ≡ Some command
    → FailsBy command result → result ≡ statuses.Failed → (cycles : ℕ) × (asked ≡ Some (Profile cycles true))
fails-asked command asked result is fails failed =
    let found = fails failed in
    (found.0, is ∙ ap (λ (one : Command). Some one) found.1)

-- a call that keeps what any program promises, and fails only so, keeps all that the lab promises
pub kept-all : (circuit : AigParts) (untouched : Type 0) (c : Call) → calls.IsKept (lab circuit) untouched c
    → FailsIfStrict c → IsKept untouched c
kept-all circuit untouched c any fails =
    record { circuit = circuit; any = any; fails = fails; takes = takes-spelled circuit untouched c any }
