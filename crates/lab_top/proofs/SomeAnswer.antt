-- Words and a source have an answer.
use Rattle.std.proofs.Common.{◌≡◌, ◌⊎◌, ◌&&◌, ℕ, inl, inr, Bool, true, false, List, length, Option, Some, None, refl, ⊎_elim}
use Rattle.std.specs.Prelude.{MatchOption}
use Rattle.std.proofs.lemmas.Bool.{cases_lt, false≢true}
use Rattle.kw_base.specs.declared.fault.Fault.{Fault}
use Rattle.kw_bits.specs.declared.host.HostSpec.{HostSpec}
use Rattle.aig_blast.specs.Aigs.{AigParts}
use Rattle.koika_check.specs.declared.checked.Checked.{Checked}
use Rattle.one_rule.specs.Stimulus.{InputVectors, inputs_of}
use Rattle.front_end.specs.Lengths.{HasNoRun, is_too_long_for}
use Rattle.front_end.specs.Program.{IsAnswer}
use Rattle.front_end.specs.Sources.{IsTooLong, Spells, fault_of_source, longest_source}
use Rattle.front_end.specs.declared.answer.Answer.TheVariants as plain_answers
use Rattle.front_end.proofs.SomeSource.{spelled_or_fault}
use Rattle.lab_top.specs.Answer.{Answers, is_answered, lab, plain}
use Rattle.lab_top.specs.Calls.{takes_spelled}
use Rattle.lab_top.specs.Lint.{NotesDesign}
use Rattle.lab_top.specs.OfDesigns.{AnswersOf}
use Rattle.lab_top.specs.Profile.{AnswersProfile, CountsRun}
use Rattle.lab_top.specs.Runs.{asked_of, is_in_doubt, profile_in, waves_in, why_text}
use Rattle.lab_top.specs.Verilog.{IsModuleOf}
use Rattle.lab_top.specs.Waves.{AnswersWaves}
use Rattle.lab_top.specs.Why.{AnswersWhy, last_of}
use Rattle.lab_top.specs.Words.{command_of}
use Rattle.lab_top.specs.declared.answer.LabAnswer.{LabAnswer}
use Rattle.lab_top.specs.declared.answer.LabAnswer.TheVariants.{Usage, Refused, Written, Failed}
use Rattle.lab_top.specs.declared.words.Command.{Command}
use Rattle.lab_top.specs.declared.words.Command.TheVariants.{Why, Profile, Waves, Verilog, Lint, Obligation, Certify}

module _ (hosts : List HostSpec) (source : List ℕ) where
  -- the source has a run of that many cycles, or is refused
  abbrev IsRun : ℕ → Type 0
  IsRun cycles = (d : Checked) × (s : InputVectors) × Spells hosts source d s × (is_too_long_for cycles d ≡ false)

  abbrev IsNone : ℕ → Type 0
  IsNone cycles = (f : Fault) × (IsTooLong source f ⊎ HasNoRun hosts cycles source f)

  of_length : (cycles : ℕ) (d : Checked) (s : InputVectors) → Spells hosts source d s → (long : Bool) → is_too_long_for cycles d ≡ long → IsRun cycles ⊎ IsNone cycles
  of_length cycles d s spelled true long = inr (fault_of_source 45, inr (inr (refl, (d, s, spelled, long))))
  of_length cycles d s spelled false within = inl (d, s, spelled, within)

  run_or_fault : (cycles : ℕ) → IsRun cycles ⊎ IsNone cycles
  run_or_fault cycles =
      ⊎_elim
      (λ long. inr (fault_of_source 40, inl (refl, long)))
      (λ short.
      ⊎_elim
      (λ found. of_length cycles found.0 found.1 found.2 (is_too_long_for cycles found.0) refl)
      (λ wrong. inr (wrong.0, inr (inl wrong.1)))
      (spelled_or_fault hosts source short))
      (cases_lt longest_source (length source))

  module _ (cycle cycles : ℕ) (name : Option (List ℕ)) where
    named : (run : IsRun (last_of cycle cycles)) (asked : Option (Option ℕ)) → asked_of run.0 name ≡ asked → (answer : LabAnswer) × AnswersWhy hosts cycle cycles name source answer
    named run None e = (Refused (fault_of_source 90), inr (record { is = refl; design = run.0; stimulus = run.1; spelled = run.2; within = run.3; unknown = e }))
    named run (Some only) e = (
      Written (why_text run.0 only (inputs_of run.1) cycle cycles),
      record { design = run.0; stimulus = run.1; spelled = run.2; within = run.3; only = only; asked = e; told = refl },
    )

    why_answer : (answer : LabAnswer) × AnswersWhy hosts cycle cycles name source answer
    why_answer = ⊎_elim (λ run. named run (asked_of run.0 name) refl) (λ none. (Refused none.0, inl none.1)) (run_or_fault (last_of cycle cycles))

  module _ (cycles : ℕ) (is_strict : Bool) where
    counted : (run : IsRun cycles) → CountsRun hosts cycles source (profile_in run.0 (inputs_of run.1) cycles) (is_in_doubt run.0 (inputs_of run.1) cycles)
    counted run = record { design = run.0; stimulus = run.1; spelled = run.2; within = run.3; told = refl; doubt = refl }

    ended : (run : IsRun cycles) (fails : Bool) → fails ≡ (is_strict && is_in_doubt run.0 (inputs_of run.1) cycles) → (answer : LabAnswer) × AnswersProfile hosts cycles is_strict source answer
    ended run false e = (Written (profile_in run.0 (inputs_of run.1) cycles), (is_in_doubt run.0 (inputs_of run.1) cycles, counted run, e))
    ended run true e = (Failed (profile_in run.0 (inputs_of run.1) cycles), (is_in_doubt run.0 (inputs_of run.1) cycles, counted run, e))

    profile_answer : (answer : LabAnswer) × AnswersProfile hosts cycles is_strict source answer
    profile_answer =
        ⊎_elim (λ run. ended run (is_strict && is_in_doubt run.0 (inputs_of run.1) cycles) refl) (λ none. (Refused none.0, none.1)) (run_or_fault cycles)

  drawn : (cycles : ℕ) (run : IsRun cycles) → (answer : LabAnswer) × AnswersWaves hosts cycles source answer
  drawn cycles run = (
    Written (waves_in run.0 (inputs_of run.1) cycles),
    record { design = run.0; stimulus = run.1; spelled = run.2; within = run.3; told = refl },
  )

  waves_answer : (cycles : ℕ) → (answer : LabAnswer) × AnswersWaves hosts cycles source answer
  waves_answer cycles = ⊎_elim (λ run. drawn cycles run) (λ none. (Refused none.0, none.1)) (run_or_fault cycles)

  -- a source is refused, or spells a design and a stimulus
  abbrev IsSpelled : Type 0
  IsSpelled = (d : Checked) × (s : InputVectors) × Spells hosts source d s

  refused_or_told : (IsTextOf : Checked → List ℕ → Type 0) → ((f : Fault) × AnswersOf IsTextOf hosts source (Refused f)) ⊎ IsSpelled
  refused_or_told IsTextOf =
      ⊎_elim
      (λ long. inl (fault_of_source 40, inl (refl, long)))
      (λ short. ⊎_elim (λ found. inr found) (λ wrong. inl (wrong.0, inr wrong.1)) (spelled_or_fault hosts source short))
      (cases_lt longest_source (length source))

module _ (circuit : AigParts) (hosts : List HostSpec) where
  command_answer : (command : Command) (source : List ℕ) → is_answered (Some command) ≡ true
      → (answer : LabAnswer) × Answers circuit hosts command source answer
  command_answer (Why cycle cycles name) source one = why_answer hosts source cycle cycles name
  command_answer (Profile cycles is_strict) source one = profile_answer hosts source cycles is_strict
  command_answer (Waves cycles) source one = waves_answer hosts source cycles
  command_answer (Verilog ports) source one = absurd (false≢true one)
  command_answer Lint source one = absurd (false≢true one)
  command_answer (Obligation name) source one = absurd (false≢true one)
  command_answer (Certify name) source one = absurd (false≢true one)

  asked_answer : (command : Option Command) (source : List ℕ) → is_answered command ≡ true
      → (answer : LabAnswer) × MatchOption command (plain answer ≡ plain_answers.Usage)
      (λ asked. Answers circuit hosts asked source answer)
  asked_answer None source one = (Usage, refl)
  asked_answer (Some command) source one = command_answer command source one

  pub some_answer : (words : List (List ℕ)) (source : List ℕ) → is_answered (command_of words) ≡ true
      → (answer : LabAnswer) × IsAnswer (lab circuit) hosts words source answer
  some_answer words source one = asked_answer (command_of words) source one

  -- a command that takes what spells a design and a stimulus refuses a source, or the source spells them
  pub refused_or_spelled : (command : Command) (source : List ℕ) → takes_spelled command ≡ true
      → ((f : Fault) × Answers circuit hosts command source (Refused f)) ⊎ IsSpelled hosts source
  refused_or_spelled (Why cycle cycles name) source takes = absurd (false≢true takes)
  refused_or_spelled (Profile cycles is_strict) source takes = absurd (false≢true takes)
  refused_or_spelled (Waves cycles) source takes = absurd (false≢true takes)
  refused_or_spelled (Verilog ports) source takes = refused_or_told hosts source (IsModuleOf ports)
  refused_or_spelled Lint source takes = refused_or_told hosts source (NotesDesign hosts source)
  refused_or_spelled (Obligation name) source takes = absurd (false≢true takes)
  refused_or_spelled (Certify name) source takes = absurd (false≢true takes)
