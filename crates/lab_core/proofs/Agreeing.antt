-- Verdicts of trials are those on attempts that were made on the very registers.
use Rattle.std.proofs.Common.{◌≡◌, ◌≢◌, Bool, List, [], ◌∷◌, ◌++◌, Option, Some, None, refl, sym, ap, ◌∙◌}
use Rattle.std.specs.Prelude.{unwrap_or, if◌then◌else◌}
use Rattle.std.specs.Option.{option_or}
use Rattle.kw_bits.specs.BitVector.{BitVector}
use Rattle.typed_core.specs.declared.access.Event.{Event}
use Rattle.typed_core.specs.declared.outcome.Alone.{Alone}
use Rattle.typed_core.specs.declared.outcome.Outcome.{Outcome}
use Rattle.typed_core.specs.declared.outcome.Outcome.TheVariants as outcome
use Rattle.one_rule.specs.Cycle.{system_of}
use Rattle.one_rule.specs.declared.cycle.Fired.{Fired}
use Rattle.attempt_log.specs.Verdict.{answer_now, at_end, clash, decision, staleness, verdict_from}
use Rattle.attempt_log.specs.declared.cause.Cause.{Cause}
use Rattle.attempt_log.specs.declared.cause.StaleRead.{StaleRead}
use Rattle.attempt_log.specs.declared.cause.Verdict as attempt
use Rattle.attempt_log.specs.declared.cause.Verdict.TheVariants.{Stale}
use Rattle.attempt_log.proofs.Commits.{never_stale}
use Rattle.lab_core.specs.Laws.{AgreesWithAttempts, FiredWhereItFires, as_attempt}
use Rattle.lab_core.specs.Trials.{clash_among, refused}
use Rattle.lab_core.specs.declared.trial.TrialVerdict.TheVariants as verdict
use Rattle.lab_core.proofs.Verdicts.{fired_fires, verdict_plain}

pub fired_where_it_fires : FiredWhereItFires
fired_where_it_fires past run = (fired_fires past run, λ h. ap (λ (b : Bool). if b then verdict.Fired else refused (clash_among past run.events) run.outcome) h)

module _ (regs : List BitVector) (past : List Fired) where
  end_agrees : (o : Outcome) → at_end o ≡ as_attempt (refused None o)
  end_agrees outcome.Done = refl
  end_agrees outcome.Abort = refl
  end_agrees (outcome.OwnClash a) = refl

  agrees : (before events : List Event) (o : Outcome) → ((read : StaleRead) → verdict_from regs past before events o ≢ Stale read)
      → verdict_from regs past before events o ≡ as_attempt (refused (clash_among past events) o)
  agrees before [] o fresh = end_agrees o
  agrees before (e ∷ events) o fresh = at (clash e.access past) (staleness (answer_now regs before e.access) e) fresh (agrees (before ++ e ∷ []) events o)
    where
      rest : attempt.Verdict
      rest = verdict_from regs past (before ++ e ∷ []) events o

      at : (c : Option Cause) (s : Option StaleRead) → ((read : StaleRead) → unwrap_or (decision c s) rest ≢ Stale read)
          → (((read : StaleRead) → rest ≢ Stale read) → rest ≡ as_attempt (refused (clash_among past events) o))
          → unwrap_or (decision c s) rest ≡ as_attempt (refused (option_or c (clash_among past events)) o)
      at (Some c) s new more = refl
      at None (Some read) new more = absurd (new read refl)
      at None None new more = more new

pub agrees_with_attempts : AgreesWithAttempts
agrees_with_attempts design rule inputs regs past =
    let run : Alone = (system_of design).alone rule inputs regs in
    agrees regs past [] run.events run.outcome (λ read. never_stale design rule inputs regs past read) ∙ ap as_attempt (sym (verdict_plain past run))
