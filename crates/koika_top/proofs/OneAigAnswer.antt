-- A source that holds an AIGER text has one run, or one fault.
use Rattle.std.proofs.Common.{◌≡◌, ◌⊎◌, ℕ, ◌<◌, ◌≤◌, true, false, List, length, Result, refl, sym, ap, ◌∙◌, inl, inr, arith}
use Rattle.aiger_text.specs.Acceptance.{accepted_text}
use Rattle.aiger_text.specs.Drafts.{Draft}
use Rattle.kw_base.specs.declared.fault.Fault.{Fault}
use Rattle.one_rule.specs.Stimulus.{InputVectors}
use Rattle.stim_report.specs.Cuts as cuts
use Rattle.koika_top.specs.Aigsim.{AnswersAigsim, HasNoAigText, HasNoStimulus, HoldsAigText, HoldsRun, IsRefusal, RunsTooLong, ShowsRun, is_too_long, shown_run, stimulus_in}
use Rattle.koika_top.specs.Answer.{IsSameAnswer, text_of}
use Rattle.koika_top.specs.Btorsim.{longest_circuit}
use Rattle.front_end.specs.declared.answer.Answer.{Answer}
use Rattle.front_end.specs.declared.answer.Answer.TheVariants.{Usage, Refused, Written}
use Rattle.koika_top.specs.declared.shown.Shown.{Shown}
use Rattle.front_end.proofs.Results.{err-same, ok-same, ok_or_err}

module _ (source : List ℕ) where
  abbrev read : Result Draft Fault
  read = accepted_text (cuts.parts_of source).design

  same_texts : (a b : Draft) → HoldsAigText source a → HoldsAigText source b → a ≡ b
  same_texts a b h k = ok-same a b read h.read k.read

  long_or_short : (n : ℕ) → longest_circuit < n → n ≤ longest_circuit → ⊥
  long_or_short n a b = omega (arith, a, b)

  same_stimuli : (a b : Draft) → HoldsAigText source a → HoldsAigText source b → stimulus_in source a ≡ stimulus_in source b
  same_stimuli a b h k = ap (stimulus_in source) (same_texts a b h k)

  -- ---- a fault of one kind, or what all later kinds rest on

  unread_or_held : (f : Fault) (said : Draft) → HasNoAigText source f → HoldsAigText source said → ⊥
  unread_or_held f said a h = ok_or_err said f read h.read a.1

  stimulus_or_run : (f : Fault) (said : Draft) (s : InputVectors) → HasNoStimulus source f → HoldsRun source said s → ⊥
  stimulus_or_run f said s a h = ok_or_err s f (stimulus_in source said) h.given (sym (same_stimuli a.0 said a.1 h.holds) ∙ a.2)

  module _ (cycles : ℕ) where
    abbrev AfterText : Fault → Type 0
    AfterText f = HasNoStimulus source f ⊎ RunsTooLong cycles source f

    abbrev AfterSource : Fault → Type 0
    AfterSource f = HasNoAigText source f ⊎ AfterText f

    held_before : (f : Fault) → AfterText f → (said : Draft) × HoldsAigText source said
    held_before f (inl a) = (a.0, a.1)
    held_before f (inr a) = (a.1.0, a.1.2.holds)

    short_before : (f : Fault) → AfterSource f → length source ≤ longest_circuit
    short_before f (inl a) = a.0
    short_before f (inr a) = (held_before f a).1.short

    -- ---- one fault

    aig-same : (f g : Fault) → AfterText f → AfterText g → f ≡ g
    aig-same f g (inl a) (inl b) = err-same f g (stimulus_in source b.0) (sym (same_stimuli a.0 b.0 a.1 b.1) ∙ a.2) b.2
    aig-same f g (inl a) (inr b) = absurd (stimulus_or_run f b.1.0 b.1.1 a b.1.2)
    aig-same f g (inr a) (inl b) = absurd (stimulus_or_run g a.1.0 a.1.1 b a.1.2)
    aig-same f g (inr a) (inr b) = a.0 ∙ sym b.0

    source-same : (f g : Fault) → AfterSource f → AfterSource g → f ≡ g
    source-same f g (inl a) (inl b) = err-same f g read a.1 b.1
    source-same f g (inl a) (inr b) = let held = held_before g b in absurd (unread_or_held f held.0 a held.1)
    source-same f g (inr a) (inl b) = let held = held_before f a in absurd (unread_or_held g held.0 b held.1)
    source-same f g (inr a) (inr b) = aig-same f g a b

    refusal-same : (f g : Fault) → IsRefusal cycles source f → IsRefusal cycles source g → f ≡ g
    refusal-same f g (inl a) (inl b) = a.0 ∙ sym b.0
    refusal-same f g (inl a) (inr b) = absurd (long_or_short (length source) a.1 (short_before g b))
    refusal-same f g (inr a) (inl b) = absurd (long_or_short (length source) b.1 (short_before f a))
    refusal-same f g (inr a) (inr b) = source-same f g a b

    -- ---- a fault or a run

    module _ (said : Draft) (s : InputVectors) (h : HoldsRun source said s) (within : is_too_long cycles said ≡ false) where
      long_or_run : (f : Fault) → RunsTooLong cycles source f → ⊥
      long_or_run f a =
          let both : true ≡ false = sym a.1.3 ∙ ap (is_too_long cycles) (same_texts a.1.0 said a.1.2.holds h.holds) ∙ within in
          absurd cc

      refusal_or_run : (f : Fault) → IsRefusal cycles source f → ⊥
      refusal_or_run f (inl a) = long_or_short (length source) a.1 h.holds.short
      refusal_or_run f (inr (inl a)) = unread_or_held f said a h.holds
      refusal_or_run f (inr (inr (inl a))) = stimulus_or_run f said s a h
      refusal_or_run f (inr (inr (inr a))) = long_or_run f a

    -- ---- one answer

    shown-same : (shown : Shown) (a b : List ℕ) → ShowsRun cycles shown source a → ShowsRun cycles shown source b → a ≡ b
    shown-same shown a b r q =
        let texts = same_texts r.said q.said r.holds.holds q.holds.holds in
        let stimulus = ok-same r.stimulus q.stimulus (stimulus_in source q.said) (sym (ap (stimulus_in source) texts) ∙ r.holds.given) q.holds.given in
        r.told
        ∙ ap (λ (said : Draft). shown_run shown said r.stimulus cycles) texts
        ∙ ap (λ (s : InputVectors). shown_run shown q.said s cycles) stimulus
        ∙ sym q.told

    pub aigsim-same : (shown : Shown) (a b : Answer) → AnswersAigsim cycles shown source a → AnswersAigsim cycles shown source b → IsSameAnswer a b
    aigsim-same shown Usage b h k = absurd h
    aigsim-same shown (Refused f) Usage h k = absurd k
    aigsim-same shown (Refused f) (Refused g) h k = record { status = refl; text = ap (λ fault. text_of (Refused fault)) (refusal-same f g h k) }
    aigsim-same shown (Refused f) (Written text) h k = absurd (refusal_or_run k.said k.stimulus k.holds k.within f h)
    aigsim-same shown (Written text) Usage h k = absurd k
    aigsim-same shown (Written text) (Refused g) h k = absurd (refusal_or_run h.said h.stimulus h.holds h.within g k)
    aigsim-same shown (Written text) (Written other) h k = record { status = refl; text = shown-same shown text other h k }
