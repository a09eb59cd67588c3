-- A source that holds a circuit text has one run, or one fault.
use Rattle.std.proofs.Common.{◌≡◌, ◌⊎◌, ℕ, ◌<◌, ◌≤◌, true, false, List, length, refl, sym, ap, ◌∙◌, inl, inr, arith}
use Rattle.kw_base.specs.declared.fault.Fault.{Fault}
use Rattle.one_rule.specs.Stimulus.{InputVectors, inputs_of}
use Rattle.btor2_model.specs.Acceptance.{first_fault}
use Rattle.btor2_text.specs.Cut.{lines_of}
use Rattle.btor2_text.specs.declared.line.Line.{Line}
use Rattle.btor2_text.proofs.Readings.{lines_or_fault, same_faults, same_readings}
use Rattle.stim_report.specs.Cuts as cuts
use Rattle.koika_top.specs.Answer.{IsSameAnswer, text_of}
use Rattle.koika_top.specs.Btorsim.{AnswersBtorsim, HasNoLines, HasNoStimulus, HasNoText, HoldsLines, HoldsRun, HoldsText, IsRefusal, RunsTooLong, ShowsRun, is_too_long, longest_circuit, shown_run, stimulus_in}
use Rattle.front_end.specs.declared.answer.Answer.{Answer}
use Rattle.front_end.specs.declared.answer.Answer.TheVariants.{Usage, Refused, Written}
use Rattle.koika_top.specs.declared.shown.Shown.{Shown}
use Rattle.front_end.proofs.Results.{err-same, ok-same, ok_or_err, some-same, some_or_none}

module _ (source : List ℕ) where
  abbrev text_lines : List (List ℕ)
  text_lines = lines_of (cuts.parts_of source).design

  same_lines : (a b : List Line) → HoldsLines source a → HoldsLines source b → a ≡ b
  same_lines a b h k = same_readings 1 text_lines a b h.are k.are

  long_or_short : (n : ℕ) → longest_circuit < n → n ≤ longest_circuit → ⊥
  long_or_short n a b = omega (arith, a, b)

  same_stimuli : (a b : List Line) → HoldsText source a → HoldsText source b → stimulus_in source a ≡ stimulus_in source b
  same_stimuli a b h k = ap (stimulus_in source) (same_lines a b h.holds k.holds)

  -- ---- a fault of one kind, or what all later kinds stand on

  unread_or_held : (f : Fault) (lines : List Line) → HasNoLines source f → HoldsLines source lines → ⊥
  unread_or_held f lines a h = lines_or_fault 1 text_lines lines f h.are a.1

  fault_or_text : (f : Fault) (lines : List Line) → HasNoText source f → HoldsText source lines → ⊥
  fault_or_text f lines a h = some_or_none f (first_fault lines) (sym (ap first_fault (same_lines a.0 lines a.1 h.holds)) ∙ a.2) h.no_fault

  stimulus_or_run : (f : Fault) (lines : List Line) (s : InputVectors) → HasNoStimulus source f → HoldsRun source lines s → ⊥
  stimulus_or_run f lines s a h = ok_or_err s f (stimulus_in source lines) h.given (sym (same_stimuli a.0 lines a.1 h.text) ∙ a.2)

  module _ (cycles : ℕ) where
    abbrev BehindText : Fault → Type 0
    BehindText f = HasNoStimulus source f ⊎ RunsTooLong cycles source f

    abbrev BehindLines : Fault → Type 0
    BehindLines f = HasNoText source f ⊎ BehindText f

    abbrev BehindSource : Fault → Type 0
    BehindSource f = HasNoLines source f ⊎ BehindLines f

    text_behind : (f : Fault) → BehindText f → (lines : List Line) × HoldsText source lines
    text_behind f (inl a) = (a.0, a.1)
    text_behind f (inr a) = (a.1.0, a.1.2.text)

    lines_behind : (f : Fault) → BehindLines f → (lines : List Line) × HoldsLines source lines
    lines_behind f (inl a) = (a.0, a.1)
    lines_behind f (inr a) = let held = text_behind f a in (held.0, held.1.holds)

    short_behind : (f : Fault) → BehindSource f → length source ≤ longest_circuit
    short_behind f (inl a) = a.0
    short_behind f (inr a) = (lines_behind f a).1.short

    -- ---- one fault

    text-same : (f g : Fault) → BehindText f → BehindText g → f ≡ g
    text-same f g (inl a) (inl b) = err-same f g (stimulus_in source b.0) (sym (same_stimuli a.0 b.0 a.1 b.1) ∙ a.2) b.2
    text-same f g (inl a) (inr b) = absurd (stimulus_or_run f b.1.0 b.1.1 a b.1.2)
    text-same f g (inr a) (inl b) = absurd (stimulus_or_run g a.1.0 a.1.1 b a.1.2)
    text-same f g (inr a) (inr b) = a.0 ∙ sym b.0

    lines-same : (f g : Fault) → BehindLines f → BehindLines g → f ≡ g
    lines-same f g (inl a) (inl b) = some-same f g (first_fault b.0) (sym (ap first_fault (same_lines a.0 b.0 a.1 b.1)) ∙ a.2) b.2
    lines-same f g (inl a) (inr b) = let held = text_behind g b in absurd (fault_or_text f held.0 a held.1)
    lines-same f g (inr a) (inl b) = let held = text_behind f a in absurd (fault_or_text g held.0 b held.1)
    lines-same f g (inr a) (inr b) = text-same f g a b

    source-same : (f g : Fault) → BehindSource f → BehindSource g → f ≡ g
    source-same f g (inl a) (inl b) = same_faults 1 text_lines f g a.1 b.1
    source-same f g (inl a) (inr b) = let held = lines_behind g b in absurd (unread_or_held f held.0 a held.1)
    source-same f g (inr a) (inl b) = let held = lines_behind f a in absurd (unread_or_held g held.0 b held.1)
    source-same f g (inr a) (inr b) = lines-same f g a b

    refusal-same : (f g : Fault) → IsRefusal cycles source f → IsRefusal cycles source g → f ≡ g
    refusal-same f g (inl a) (inl b) = a.0 ∙ sym b.0
    refusal-same f g (inl a) (inr b) = absurd (long_or_short (length source) a.1 (short_behind g b))
    refusal-same f g (inr a) (inl b) = absurd (long_or_short (length source) b.1 (short_behind f a))
    refusal-same f g (inr a) (inr b) = source-same f g a b

    -- ---- a fault or a run

    module _ (lines : List Line) (s : InputVectors) (h : HoldsRun source lines s) (within : is_too_long cycles lines ≡ false) where
      long_or_run : (f : Fault) → RunsTooLong cycles source f → ⊥
      long_or_run f a =
          let both : true ≡ false = sym a.1.3 ∙ ap (is_too_long cycles) (same_lines a.1.0 lines a.1.2.text.holds h.text.holds) ∙ within in
          absurd cc

      refusal_or_run : (f : Fault) → IsRefusal cycles source f → ⊥
      refusal_or_run f (inl a) = long_or_short (length source) a.1 h.text.holds.short
      refusal_or_run f (inr (inl a)) = unread_or_held f lines a h.text.holds
      refusal_or_run f (inr (inr (inl a))) = fault_or_text f lines a h.text
      refusal_or_run f (inr (inr (inr (inl a)))) = stimulus_or_run f lines s a h
      refusal_or_run f (inr (inr (inr (inr a)))) = long_or_run f a

    -- ---- one answer

    shown-same : (shown : Shown) (a b : List ℕ) → ShowsRun cycles shown source a → ShowsRun cycles shown source b → a ≡ b
    shown-same shown a b r q =
        let lines = same_lines r.lines q.lines r.holds.text.holds q.holds.text.holds in
        let stimulus = ok-same r.stimulus q.stimulus (stimulus_in source q.lines) (sym (ap (stimulus_in source) lines) ∙ r.holds.given) q.holds.given in
        r.told
        ∙ ap (λ (ls : List Line). shown_run shown ls (inputs_of r.stimulus) cycles) lines
        ∙ ap (λ (s : InputVectors). shown_run shown q.lines (inputs_of s) cycles) stimulus
        ∙ sym q.told

    pub btorsim-same : (shown : Shown) (a b : Answer) → AnswersBtorsim cycles shown source a → AnswersBtorsim cycles shown source b → IsSameAnswer a b
    btorsim-same shown Usage b h k = absurd h
    btorsim-same shown (Refused f) Usage h k = absurd k
    btorsim-same shown (Refused f) (Refused g) h k = record { status = refl; text = ap (λ fault. text_of (Refused fault)) (refusal-same f g h k) }
    btorsim-same shown (Refused f) (Written text) h k = absurd (refusal_or_run k.lines k.stimulus k.holds k.within f h)
    btorsim-same shown (Written text) Usage h k = absurd k
    btorsim-same shown (Written text) (Refused g) h k = absurd (refusal_or_run h.lines h.stimulus h.holds h.within g k)
    btorsim-same shown (Written text) (Written other) h k = record { status = refl; text = shown-same shown text other h k }
