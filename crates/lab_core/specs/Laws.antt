-- What holds of every trial, and of the cycles of every run. It adds nothing to what trials are.
use Rattle.std.specs.Prelude.{◌≡◌, ℕ, ◌+◌, ◌↔◌, true, List, [], ◌∷◌, ◌++◌, Option}
use Rattle.kw_bits.specs.BitVector.{BitVector}
use Rattle.typed_core.specs.declared.design.Parts.{Parts}
use Rattle.typed_core.specs.declared.outcome.Alone.{Alone}
use Rattle.one_rule.specs.Cycle.{cycle, fires, system_of}
use Rattle.one_rule.specs.Run.{InputsByCycle, first_values}
use Rattle.one_rule.specs.declared.cycle.Fired.{Fired}
use Rattle.attempt_log.specs.Verdict as attempts
use Rattle.attempt_log.specs.declared.cause.Verdict as attempt
use Rattle.attempt_log.specs.declared.cause.Verdict.TheVariants.{Commit, Skip}
use Rattle.lab_core.specs.Runs.{registers_before, trials_in, trials_of_run}
use Rattle.lab_core.specs.Trials.{verdict_of}
use Rattle.lab_core.specs.Why.{text_in, why_text}
use Rattle.lab_core.specs.declared.trial.TrialVerdict.{TrialVerdict}
use Rattle.lab_core.specs.declared.trial.TrialVerdict.TheVariants as verdict

-- ---- verdicts

-- a verdict says that a rule fired exactly where it fires
abbrev pub FiredWhereItFires : Type 0
FiredWhereItFires = (past : List Fired) (run : Alone) → (verdict_of past run ≡ verdict.Fired) ↔ (fires past run ≡ true)

-- what is answered to an attempt with this verdict
abbrev pub as_attempt : TrialVerdict → attempt.Verdict
as_attempt verdict.Fired = Commit
as_attempt (verdict.Refused c) = Skip c

-- the verdict is the one on an attempt that was made on these very registers, so journals name the same causes
abbrev pub AgreesWithAttempts : Type 0
AgreesWithAttempts = (design : Parts) (rule : ℕ) (inputs regs : List BitVector) (past : List Fired)
    → let run = (system_of design).alone rule inputs regs in attempts.verdict regs past run ≡ as_attempt (verdict_of past run)

-- ---- the cycles of a run

-- the first cycle finds the first values
abbrev pub FindsFirstValues : Type 0
FindsFirstValues = (design : Parts) (inputs : InputsByCycle) → registers_before design inputs 1 ≡ first_values design

-- each later one finds what the cycle before it left
abbrev pub FindsWhatWasLeft : Type 0
FindsWhatWasLeft = (design : Parts) (inputs : InputsByCycle) (c : ℕ)
    → registers_before design inputs (c + 2) ≡ (cycle (system_of design) (inputs (c + 1)) (registers_before design inputs (c + 1))).regs

-- a run that is one cycle longer has the trials of that cycle more
abbrev pub TrialsByCycle : Type 0
TrialsByCycle = (design : Parts) (inputs : InputsByCycle) (n : ℕ) → trials_of_run design inputs (n + 1) ≡ trials_of_run design inputs n ++ trials_in design inputs (n + 1) ∷ []

-- and so has a text
abbrev pub TextsByCycle : Type 0
TextsByCycle = (design : Parts) (only : Option ℕ) (inputs : InputsByCycle) (first count : ℕ)
    → why_text design only inputs first (count + 1) ≡ why_text design only inputs first count ++ text_in design only inputs (first + count)
