-- Which commands of the lab take each source that spells a design and a stimulus.
use Rattle.std.proofs.Common.{◌≡◌, ◌⊎◌, ℕ, true, List, Option, Some, None, refl, subst, ◌∙◌, inl, inr, ⊎_elim}
use Rattle.std.specs.Prelude.{IfSome, MatchOption}
use Rattle.std.proofs.lemmas.Bool.{false≢true}
use Rattle.kw_base.specs.declared.fault.Fault.{Fault}
use Rattle.kw_bits.specs.declared.host.HostSpec.{HostSpec}
use Rattle.aig_blast.specs.Aigs.{AigParts}
use Rattle.koika_check.specs.declared.checked.Checked.{Checked}
use Rattle.one_rule.specs.Stimulus.{InputVectors}
use Rattle.front_end.specs.Calls as calls
use Rattle.front_end.specs.Calls.{IsAnswerTo, command_in, known_in}
use Rattle.front_end.specs.Program.{IsFailure, text_in}
use Rattle.front_end.specs.Sources.{Spells}
use Rattle.front_end.specs.Streams.{GainsFront, GainsNothing}
use Rattle.front_end.specs.declared.answer.Answer.TheVariants as plain_answers
use Rattle.front_end.specs.declared.status.Status.TheVariants as plain_statuses
use Rattle.lab_top.specs.Answer.{Answers, answered, ends, lab, plain}
use Rattle.lab_top.specs.Calls.{Call, TakesSpelled, takes_spelled}
use Rattle.lab_top.specs.declared.answer.LabAnswer.{LabAnswer}
use Rattle.lab_top.specs.declared.answer.LabAnswer.TheVariants.{Usage, Refused, Written, Failed}
use Rattle.lab_top.specs.declared.status.LabStatus.TheVariants as statuses
use Rattle.lab_top.specs.declared.words.Command.{Command}
use Rattle.lab_top.specs.declared.words.Command.TheVariants.{Why, Profile, Waves, Verilog, Lint, Obligation, Certify}
use Rattle.lab_top.proofs.OneAnswer.{spelled_or_untold}

module _ (circuit : AigParts) (hosts : List HostSpec) (bytes : List ℕ) (design : Checked) (stimulus : InputVectors) where
  -- no command that takes such a source refuses it
  pub never_both : (command : Command) (f : Fault) → takes_spelled command ≡ true → Spells hosts bytes design stimulus → Answers circuit hosts command bytes (Refused f) → ⊥
  never_both (Why cycle cycles name) f takes spelled is = absurd (false≢true takes)
  never_both (Profile cycles is_strict) f takes spelled is = absurd (false≢true takes)
  never_both (Waves cycles) f takes spelled is = absurd (false≢true takes)
  never_both (Verilog ports) f takes spelled is = spelled_or_untold hosts bytes f design stimulus is spelled
  never_both Lint f takes spelled is = spelled_or_untold hosts bytes f design stimulus is spelled
  never_both (Obligation name) f takes spelled is = absurd (false≢true takes)
  never_both (Certify name) f takes spelled is = absurd (false≢true takes)

  -- its answer is a text
  taken : (command : Command) (answer : LabAnswer) → takes_spelled command ≡ true → Spells hosts bytes design stimulus → Answers circuit hosts command bytes answer → answered answer ≡ statuses.Done
  taken command (Refused f) takes spelled is = absurd (never_both command f takes spelled is)
  taken command (Written text) takes spelled is = refl
  taken (Why cycle cycles name) Usage takes spelled is = absurd (false≢true takes)
  taken (Why cycle cycles name) (Failed text) takes spelled is = absurd (false≢true takes)
  taken (Profile cycles is_strict) Usage takes spelled is = absurd (false≢true takes)
  taken (Profile cycles is_strict) (Failed text) takes spelled is = absurd (false≢true takes)
  taken (Waves cycles) Usage takes spelled is = absurd (false≢true takes)
  taken (Waves cycles) (Failed text) takes spelled is = absurd (false≢true takes)
  taken (Verilog ports) Usage takes spelled is = absurd is
  taken (Verilog ports) (Failed text) takes spelled is = absurd is
  taken Lint Usage takes spelled is = absurd is
  taken Lint (Failed text) takes spelled is = absurd is
  taken (Obligation name) Usage takes spelled is = absurd (false≢true takes)
  taken (Obligation name) (Failed text) takes spelled is = absurd (false≢true takes)
  taken (Certify name) Usage takes spelled is = absurd (false≢true takes)
  taken (Certify name) (Failed text) takes spelled is = absurd (false≢true takes)

-- what follows from two facts of what is known
of-both : {X : Type 0} (P Q R : X → Type 0) (known : Option X) → ((x : X) → P x → Q x → R x) → IfSome known P → IfSome known Q → IfSome known R
of-both P Q R None f p q = tt
of-both P Q R (Some x) f p q = f x p q

module _ (circuit : AigParts) (c : Call) where
  -- some answer's front was written, or nothing was
  abbrev WritesSome : List ℕ → Type 0
  WritesSome bytes =
      ((answer : LabAnswer) × IsAnswerTo (lab circuit) c bytes answer × GainsFront c.sink (text_in (lab circuit) answer))
      ⊎ (GainsNothing c.sink × ((ends c.status ≡ plain_statuses.ReadFault) ⊎ (ends c.status ≡ plain_statuses.NoMemory)))

  -- the status is that of each answer, or a failure's
  abbrev HasStatus : List ℕ → Type 0
  HasStatus bytes =
      (answer : LabAnswer) → IsAnswerTo (lab circuit) c bytes answer → (c.status ≡ answered answer) ⊎ IsFailure (ends c.status)

  -- it is 0 where the source spells a design and a stimulus, or a failure's
  abbrev IsDone : List ℕ → Type 0
  IsDone bytes =
      (design : Checked) (stimulus : InputVectors) → Spells c.hosts bytes design stimulus
      → (c.status ≡ statuses.Done) ⊎ IsFailure (ends c.status)

  module _ (command : Command) (asked : command_in (lab circuit) c ≡ Some command) (takes : takes_spelled command ≡ true) where
    answers : (answer : LabAnswer) (bytes : List ℕ) → IsAnswerTo (lab circuit) c bytes answer → Answers circuit c.hosts command bytes answer
    answers answer bytes is =
        subst (λ (o : Option Command). MatchOption o (plain answer ≡ plain_answers.Usage) (λ (one : Command). Answers circuit c.hosts one bytes answer)) asked is

    is-done : (bytes : List ℕ) → WritesSome bytes → HasStatus bytes → IsDone bytes
    is-done bytes (inl (answer, is, front)) exact design stimulus spelled =
        ⊎_elim
        (λ same. inl (same ∙ taken circuit c.hosts bytes design stimulus command answer takes spelled (answers answer bytes is)))
        (λ failed. inr failed)
        (exact answer is)
    is-done bytes (inr (nothing, why)) exact design stimulus spelled =
        inr (⊎_elim (λ e. inl e) (λ e. inr (inr e)) why)

pub takes-spelled : (circuit : AigParts) (untouched : Type 0) (c : Call) → calls.IsKept (lab circuit) untouched c
    → TakesSpelled circuit c
takes-spelled circuit untouched c any command asked takes =
    of-both (WritesSome circuit c) (HasStatus circuit c) (IsDone circuit c) (known_in (lab circuit) c)
    (is-done circuit c command asked takes) any.some any.exact
