-- Words and a source have one answer, or answers that are alike.
use Rattle.std.proofs.Common.{◌≡◌, ◌⊎◌, ◌&&◌, ℕ, inl, inr, Bool, true, false, true≢false, List, Option, Some, None, refl, sym, ap, ◌∙◌}
use Rattle.std.specs.Prelude.{MatchOption}
use Rattle.std.proofs.lemmas.Bool.{false≢true}
use Rattle.kw_base.specs.declared.fault.Fault.{Fault}
use Rattle.kw_bits.specs.declared.host.HostSpec.{HostSpec}
use Rattle.aig_blast.specs.Aigs.{AigParts}
use Rattle.koika_check.specs.declared.checked.Checked.{Checked}
use Rattle.one_rule.specs.Stimulus.{InputVectors, inputs_of}
use Rattle.front_end.specs.Lengths.{HasNoRun, is_too_long_for}
use Rattle.front_end.specs.Sources.{IsTooLong, IsUnspelled, Spells}
use Rattle.front_end.specs.declared.answer.Answer.TheVariants as plain_answers
use Rattle.front_end.proofs.Either.{IsOne}
use Rattle.front_end.proofs.OneSource.{long_or_spelled, no_run-same, no_run-short, run_or_long, same_design, same_stimulus, spelled_or_not, too_long-same, unspelled-same, unspelled-short}
use Rattle.lab_certify.specs.Claims.{last_part}
use Rattle.lab_certify.proofs.OneClaim.{certified-same, no_claim-same, obligation_or_not, obligations-same, refuted_or_not, uncertified-same}
use Rattle.lab_top.specs.Answer.{Answers, IsLikeAnswer, answered, has_one_text, plain}
use Rattle.lab_top.specs.Certify.{AnswersCertify, AnswersObligation}
use Rattle.lab_top.specs.Lint.{NotesDesign}
use Rattle.lab_top.specs.OfDesigns.{AnswersOf}
use Rattle.lab_top.specs.Profile.{AnswersProfile, ShowsProfile}
use Rattle.lab_top.specs.Runs.{asked_of, is_in_doubt, profile_in, waves_in, why_text}
use Rattle.lab_top.specs.Verilog.{IsModuleOf}
use Rattle.lab_top.specs.Waves.{AnswersWaves, ShowsWaves}
use Rattle.lab_top.specs.Why.{AnswersWhy, NamesNoRule, ShowsWhy, last_of}
use Rattle.lab_top.specs.declared.answer.LabAnswer.{LabAnswer}
use Rattle.lab_top.specs.declared.answer.LabAnswer.TheVariants.{Usage, Refused, Written, Failed}
use Rattle.lab_top.specs.declared.status.LabStatus.TheVariants as statuses
use Rattle.lab_top.specs.declared.words.Command.{Command}
use Rattle.lab_top.specs.declared.words.Command.TheVariants.{Why, Profile, Waves, Verilog, Lint, Obligation, Certify}

module _ (hosts : List HostSpec) (source : List ℕ) where
  -- two sources' designs and stimuli are one
  designs : (d e : Checked) (s r : InputVectors) → Spells hosts source d s → Spells hosts source e r → d ≡ e
  designs d e s r h k = same_design hosts source d e h.spelled k.spelled

  -- ---- runs

  module _ (cycles : ℕ) where
    abbrev IsRefused : Fault → Type 0
    IsRefused f = IsTooLong source f ⊎ HasNoRun hosts cycles source f

    refused-same : IsOne IsRefused
    refused-same =
        too_long-same source (HasNoRun hosts cycles source) (no_run-same hosts source cycles) (no_run-short hosts source cycles)

    -- no source both has a run of that many cycles and is refused
    refused_or_run : (f : Fault) (d : Checked) (s : InputVectors) → IsRefused f → Spells hosts source d s → is_too_long_for cycles d ≡ false → ⊥
    refused_or_run f d s (inl a) spelled within = long_or_spelled hosts source f d a spelled.spelled
    refused_or_run f d s (inr a) spelled within = run_or_long hosts source cycles f d a s spelled within

  -- ---- why

  module _ (cycle cycles : ℕ) (name : Option (List ℕ)) where
    -- the rule that is asked for is there, or it isn't
    named_or_not : (f : Fault) (text : List ℕ) → NamesNoRule hosts (last_of cycle cycles) name source f → ShowsWhy hosts cycle cycles name source text → ⊥
    named_or_not f text h k =
        let bad : None ≡ Some k.only = sym h.unknown ∙ ap (λ (d : Checked). asked_of d name) (designs h.design k.design h.stimulus k.stimulus h.spelled k.spelled) ∙ k.asked in
        absurd cc

    texts : (a b : List ℕ) → ShowsWhy hosts cycle cycles name source a → ShowsWhy hosts cycle cycles name source b → a ≡ b
    texts a b h k =
        let same : h.design ≡ k.design = designs h.design k.design h.stimulus k.stimulus h.spelled k.spelled in
        let given : h.stimulus ≡ k.stimulus = same_stimulus hosts source h.design k.design h.stimulus k.stimulus h.spelled k.spelled in
        let both : Some h.only ≡ Some k.only = sym h.asked ∙ ap (λ (d : Checked). asked_of d name) same ∙ k.asked in
        let only : h.only ≡ k.only = cc in
        h.told ∙ (λ i. why_text (same i) (only i) (inputs_of (given i)) cycle cycles) ∙ sym k.told

    why-same : (a b : LabAnswer) → AnswersWhy hosts cycle cycles name source a → AnswersWhy hosts cycle cycles name source b → a ≡ b
    why-same Usage b h k = absurd h
    why-same (Failed text) b h k = absurd h
    why-same (Refused f) Usage h k = absurd k
    why-same (Refused f) (Failed text) h k = absurd k
    why-same (Refused f) (Refused g) (inl h) (inl k) = ap (λ x. Refused x) (refused-same (last_of cycle cycles) f g h k)
    why-same (Refused f) (Refused g) (inl h) (inr k) = absurd (refused_or_run (last_of cycle cycles) f k.design k.stimulus h k.spelled k.within)
    why-same (Refused f) (Refused g) (inr h) (inl k) = absurd (refused_or_run (last_of cycle cycles) g h.design h.stimulus k h.spelled h.within)
    why-same (Refused f) (Refused g) (inr h) (inr k) = ap (λ x. Refused x) (h.is ∙ sym k.is)
    why-same (Refused f) (Written text) (inl h) k = absurd (refused_or_run (last_of cycle cycles) f k.design k.stimulus h k.spelled k.within)
    why-same (Refused f) (Written text) (inr h) k = absurd (named_or_not f text h k)
    why-same (Written text) Usage h k = absurd k
    why-same (Written text) (Failed other) h k = absurd k
    why-same (Written text) (Refused g) h (inl k) = absurd (refused_or_run (last_of cycle cycles) g h.design h.stimulus k h.spelled h.within)
    why-same (Written text) (Refused g) h (inr k) = absurd (named_or_not g text k h)
    why-same (Written text) (Written other) h k = ap (λ x. Written x) (texts text other h k)

  -- ---- profile

  module _ (cycles : ℕ) (is_strict : Bool) where
    profiles : (a b : List ℕ) (f g : Bool) → ShowsProfile hosts cycles is_strict source a f → ShowsProfile hosts cycles is_strict source b g → (a ≡ b) × (f ≡ g)
    profiles a b f g (x, h, fails) (y, k, fails') =
        let same : h.design ≡ k.design = designs h.design k.design h.stimulus k.stimulus h.spelled k.spelled in
        let given : h.stimulus ≡ k.stimulus = same_stimulus hosts source h.design k.design h.stimulus k.stimulus h.spelled k.spelled in
        let doubt : x ≡ y = h.doubt ∙ (λ i. is_in_doubt (same i) (inputs_of (given i)) cycles) ∙ sym k.doubt in (
          h.told ∙ (λ i. profile_in (same i) (inputs_of (given i)) cycles) ∙ sym k.told,
          fails ∙ ap (λ (one : Bool). is_strict && one) doubt ∙ sym fails',
        )

    profile-same : (a b : LabAnswer) → AnswersProfile hosts cycles is_strict source a → AnswersProfile hosts cycles is_strict source b → a ≡ b
    profile-same Usage b h k = absurd h
    profile-same (Refused f) Usage h k = absurd k
    profile-same (Refused f) (Refused g) h k = ap (λ x. Refused x) (refused-same cycles f g h k)
    profile-same (Refused f) (Written text) h k = absurd (refused_or_run cycles f k.1.design k.1.stimulus h k.1.spelled k.1.within)
    profile-same (Refused f) (Failed text) h k = absurd (refused_or_run cycles f k.1.design k.1.stimulus h k.1.spelled k.1.within)
    profile-same (Written text) Usage h k = absurd k
    profile-same (Written text) (Refused g) h k = absurd (refused_or_run cycles g h.1.design h.1.stimulus k h.1.spelled h.1.within)
    profile-same (Written text) (Written other) h k = ap (λ x. Written x) (profiles text other false false h k).0
    profile-same (Written text) (Failed other) h k = absurd (true≢false (sym (profiles text other false true h k).1))
    profile-same (Failed text) Usage h k = absurd k
    profile-same (Failed text) (Refused g) h k = absurd (refused_or_run cycles g h.1.design h.1.stimulus k h.1.spelled h.1.within)
    profile-same (Failed text) (Written other) h k = absurd (true≢false (profiles text other true false h k).1)
    profile-same (Failed text) (Failed other) h k = ap (λ x. Failed x) (profiles text other true true h k).0

  -- ---- waves

  module _ (cycles : ℕ) where
    dumps : (a b : List ℕ) → ShowsWaves hosts cycles source a → ShowsWaves hosts cycles source b → a ≡ b
    dumps a b h k =
        let same : h.design ≡ k.design =
        designs h.design k.design h.stimulus k.stimulus h.spelled k.spelled in
        let given : h.stimulus ≡ k.stimulus =
        same_stimulus hosts source h.design k.design h.stimulus k.stimulus h.spelled k.spelled in
        h.told ∙ (λ i. waves_in (same i) (inputs_of (given i)) cycles) ∙ sym k.told

    waves-same : (a b : LabAnswer) → AnswersWaves hosts cycles source a → AnswersWaves hosts cycles source b → a ≡ b
    waves-same Usage b h k = absurd h
    waves-same (Failed text) b h k = absurd h
    waves-same (Refused f) Usage h k = absurd k
    waves-same (Refused f) (Failed text) h k = absurd k
    waves-same (Refused f) (Refused g) h k = ap (λ x. Refused x) (refused-same cycles f g h k)
    waves-same (Refused f) (Written text) h k =
        absurd (refused_or_run cycles f k.design k.stimulus h k.spelled k.within)
    waves-same (Written text) Usage h k = absurd k
    waves-same (Written text) (Failed other) h k = absurd k
    waves-same (Written text) (Refused g) h k =
        absurd (refused_or_run cycles g h.design h.stimulus k h.spelled h.within)
    waves-same (Written text) (Written other) h k = ap (λ x. Written x) (dumps text other h k)

  -- ---- texts of designs

  abbrev IsUntold : Fault → Type 0
  IsUntold f = IsTooLong source f ⊎ IsUnspelled hosts source f

  untold-same : IsOne IsUntold
  untold-same = too_long-same source (IsUnspelled hosts source) (unspelled-same hosts source) (unspelled-short hosts source)

  -- no source both spells a design and a stimulus and is refused
  pub spelled_or_untold : (f : Fault) (d : Checked) (s : InputVectors) → IsUntold f → Spells hosts source d s → ⊥
  spelled_or_untold f d s (inl long) spelled = long_or_spelled hosts source f d long spelled.spelled
  spelled_or_untold f d s (inr fault) spelled = spelled_or_not hosts source f d s fault spelled

  module _ (IsTextOf : Checked → List ℕ → Type 0) where
    pub of-like : (a b : LabAnswer) → AnswersOf IsTextOf hosts source a → AnswersOf IsTextOf hosts source b → IsLikeAnswer a b
    of-like Usage b h k = absurd h
    of-like (Failed text) b h k = absurd h
    of-like (Refused f) Usage h k = absurd k
    of-like (Refused f) (Failed text) h k = absurd k
    of-like (Refused f) (Refused g) h k =
        record { status = refl; refusal = λ _. ap (λ x. Refused x) (untold-same f g h k) }
    of-like (Refused f) (Written text) h k = absurd (spelled_or_untold f k.design k.stimulus h k.spelled)
    of-like (Written text) Usage h k = absurd k
    of-like (Written text) (Failed other) h k = absurd k
    of-like (Written text) (Refused g) h k = absurd (spelled_or_untold g h.design h.stimulus k h.spelled)
    of-like (Written text) (Written other) h k = record {
      status = refl;
      refusal = λ e. let bad : statuses.Done ≡ statuses.Refused = e in absurd cc;
    }

  -- ---- obligation and certify

  module _ (circuit : AigParts) (name : Option (List ℕ)) where
    obligation-same : (a b : LabAnswer) → AnswersObligation circuit hosts name source a
        → AnswersObligation circuit hosts name source b → a ≡ b
    obligation-same Usage b h k = absurd h
    obligation-same (Failed text) b h k = absurd h
    obligation-same (Refused f) Usage h k = absurd k
    obligation-same (Refused f) (Failed text) h k = absurd k
    obligation-same (Refused f) (Refused g) h k =
        ap (λ x. Refused x) (no_claim-same hosts source name (last_part source) f g h k)
    obligation-same (Refused f) (Written text) h k = absurd (obligation_or_not hosts source name circuit f text h k)
    obligation-same (Written text) Usage h k = absurd k
    obligation-same (Written text) (Failed other) h k = absurd k
    obligation-same (Written text) (Refused g) h k = absurd (obligation_or_not hosts source name circuit g text k h)
    obligation-same (Written text) (Written other) h k =
        ap (λ x. Written x) (obligations-same hosts source name circuit text other h k)

    certify-same : (a b : LabAnswer) → AnswersCertify circuit hosts name source a
        → AnswersCertify circuit hosts name source b → a ≡ b
    certify-same Usage b h k = absurd h
    certify-same (Failed text) b h k = absurd h
    certify-same (Refused f) Usage h k = absurd k
    certify-same (Refused f) (Failed text) h k = absurd k
    certify-same (Refused f) (Refused g) h k =
        ap (λ x. Refused x) (uncertified-same hosts source name circuit f g h k)
    certify-same (Refused f) (Written text) h k = absurd (refuted_or_not hosts source name circuit f text h k)
    certify-same (Written text) Usage h k = absurd k
    certify-same (Written text) (Failed other) h k = absurd k
    certify-same (Written text) (Refused g) h k = absurd (refuted_or_not hosts source name circuit g text k h)
    certify-same (Written text) (Written other) h k =
        ap (λ x. Written x) (certified-same hosts source name circuit text other h k)

-- ---- words

-- only how to use the lab is written as such
plain-usage : (a : LabAnswer) → plain a ≡ plain_answers.Usage → a ≡ Usage
plain-usage Usage e = refl
plain-usage (Refused fault) e = let bad : plain_answers.Refused fault ≡ plain_answers.Usage = e in absurd cc
plain-usage (Written text) e = let bad : plain_answers.Written text ≡ plain_answers.Usage = e in absurd cc
plain-usage (Failed text) e = let bad : plain_answers.Written text ≡ plain_answers.Usage = e in absurd cc

-- equal answers are alike
same-like : (a b : LabAnswer) → a ≡ b → IsLikeAnswer a b
same-like a b same = record { status = ap answered same; refusal = λ _. same }

module _ (circuit : AigParts) (hosts : List HostSpec) where
  command-same : (command : Command) (source : List ℕ) (a b : LabAnswer) → has_one_text (Some command) ≡ true
      → Answers circuit hosts command source a → Answers circuit hosts command source b → a ≡ b
  command-same (Why cycle cycles name) source a b one h k = why-same hosts source cycle cycles name a b h k
  command-same (Profile cycles is_strict) source a b one h k = profile-same hosts source cycles is_strict a b h k
  command-same (Waves cycles) source a b one h k = waves-same hosts source cycles a b h k
  command-same (Verilog ports) source a b one h k = absurd (false≢true one)
  command-same Lint source a b one h k = absurd (false≢true one)
  command-same (Obligation name) source a b one h k = obligation-same hosts source circuit name a b h k
  command-same (Certify name) source a b one h k = certify-same hosts source circuit name a b h k

  command-like : (command : Command) (source : List ℕ) (a b : LabAnswer) → Answers circuit hosts command source a
      → Answers circuit hosts command source b → IsLikeAnswer a b
  command-like (Why cycle cycles name) source a b h k = same-like a b (why-same hosts source cycle cycles name a b h k)
  command-like (Profile cycles is_strict) source a b h k =
      same-like a b (profile-same hosts source cycles is_strict a b h k)
  command-like (Waves cycles) source a b h k = same-like a b (waves-same hosts source cycles a b h k)
  command-like (Verilog ports) source a b h k = of-like hosts source (IsModuleOf ports) a b h k
  command-like Lint source a b h k = of-like hosts source (NotesDesign hosts source) a b h k
  command-like (Obligation name) source a b h k = same-like a b (obligation-same hosts source circuit name a b h k)
  command-like (Certify name) source a b h k = same-like a b (certify-same hosts source circuit name a b h k)

  -- the answer is one to words that ask for this
  abbrev Is : Option Command → List ℕ → LabAnswer → Type 0
  Is command source answer =
      MatchOption command (plain answer ≡ plain_answers.Usage) (λ asked. Answers circuit hosts asked source answer)

  -- all answers are one, where there is one text
  pub asked-same : (command : Option Command) (source : List ℕ) (a b : LabAnswer) → has_one_text command ≡ true
      → Is command source a → Is command source b → a ≡ b
  asked-same None source a b one h k = plain-usage a h ∙ sym (plain-usage b k)
  asked-same (Some command) source a b one h k = command-same command source a b one h k

  -- and all answers are alike
  pub asked-like : (command : Option Command) (source : List ℕ) (a b : LabAnswer) → Is command source a
      → Is command source b → IsLikeAnswer a b
  asked-like None source a b h k = same-like a b (plain-usage a h ∙ sym (plain-usage b k))
  asked-like (Some command) source a b h k = command-like command source a b h k
