-- A source has one answer to each command, by its status and its text.
use Rattle.std.proofs.Common.{◌≡◌, ◌⊎◌, ℕ, ◌<◌, ◌≤◌, inl, inr, true, false, List, length, sym, ap, ap₂, subst, ◌∙◌, arith}
use Rattle.kw_base.specs.declared.fault.Fault.{Fault}
use Rattle.kw_bits.specs.declared.host.HostSpec.{HostSpec}
use Rattle.koika_syntax.specs.Grammar.{tree_leaves}
use Rattle.koika_syntax.specs.declared.tree.Tree.{Tree}
use Rattle.koika_check.specs.BitWeights.{bit_weight}
use Rattle.koika_check.specs.Counts.{counts_of}
use Rattle.koika_check.specs.declared.checked.Checked.{Checked}
use Rattle.koika_print.specs.Printed.{printed}
use Rattle.one_rule.specs.Stimulus.{InputVectors}
use Rattle.front_end.specs.Aigs.{most_bits}
use Rattle.front_end.specs.Lengths.{HasNoRun}
use Rattle.front_end.specs.Sources.{IsTooLong, IsUnread, IsUnspelled, Spells, longest_source}
use Rattle.front_end.specs.declared.answer.Answer.{Answer}
use Rattle.front_end.specs.declared.answer.Answer.TheVariants.{Refused}
use Rattle.front_end.proofs.Either.{IsOne, either}
use Rattle.front_end.proofs.OneSource.{no_run-same, no_run-short, read_or_not, run_or_long, same_design, same_stimulus, same_tree, short_or_fault, spelled_or_not, too_long-same, unread-same, unread-short, unspelled-same, unspelled-short}
use Rattle.koika_top.specs.Aiger.{AnswersAiger, HasNoAig, HasTooManyBits}
use Rattle.koika_top.specs.Answer.{IsLikeAnswer, IsSameAnswer}
use Rattle.koika_top.specs.Compile.{AnswersCompile}
use Rattle.koika_top.specs.Journal.{AnswersJournal, HasJournal, HasNoJournal, RunsTooHeavy, is_too_heavy}
use Rattle.koika_top.specs.Reads.{AnswersCheck, AnswersPrint, ShowsTree, TellsCounts, counts_line}
use Rattle.koika_top.specs.Sim.{AnswersSim, ShowsRun, text_of_run}
use Rattle.koika_top.specs.declared.shown.Shown.{Shown}
use Rattle.koika_top.proofs.AnswerCases.{like_answer, same_answer}

-- answers that can't be told apart have one status
pub same-like : (a b : Answer) → IsSameAnswer a b → IsLikeAnswer a b
same-like a b same = record { status = same.status; refusal = λ _. same.text }

-- ---- print

module _ (source : List ℕ) where
  printed-same : (a b : List ℕ) → ShowsTree source a → ShowsTree source b → a ≡ b
  printed-same a b h k = h.told ∙ ap (λ (tree : Tree). printed (tree_leaves tree)) (same_tree source h.tree k.tree h.spelled k.spelled) ∙ sym k.told

  pub print-same : (a b : Answer) → AnswersPrint source a → AnswersPrint source b → IsSameAnswer a b
  print-same =
      same_answer (AnswersPrint source) (λ none. none) (too_long-same source (IsUnread source) (unread-same source) (unread-short source))
      (λ f text h k. short_or_fault source (IsUnread source) f k.spelled.short (λ a. read_or_not source f k.tree a k.spelled) h) printed-same

module _ (hosts : List HostSpec) (source : List ℕ) where
  -- ---- check

  refused-same : IsOne (λ f. IsTooLong source f ⊎ IsUnspelled hosts source f)
  refused-same = too_long-same source (IsUnspelled hosts source) (unspelled-same hosts source) (unspelled-short hosts source)

  -- no source both spells a design and a stimulus and is refused
  pub spelled_or_refused : (f : Fault) (d : Checked) (s : InputVectors) → Spells hosts source d s → AnswersCompile hosts source (Refused f) → ⊥
  spelled_or_refused f d s spelled = short_or_fault source (IsUnspelled hosts source) f spelled.spelled.spelled.short (λ a. spelled_or_not hosts source f d s a spelled)

  counted-same : (a b : List ℕ) → TellsCounts hosts source a → TellsCounts hosts source b → a ≡ b
  counted-same a b h k = h.told ∙ ap (λ d. counts_line (counts_of d)) (same_design hosts source h.design k.design h.spelled.spelled k.spelled.spelled) ∙ sym k.told

  pub check-same : (a b : Answer) → AnswersCheck hosts source a → AnswersCheck hosts source b → IsSameAnswer a b
  check-same = same_answer (AnswersCheck hosts source) (λ none. none) refused-same (λ f text h k. spelled_or_refused f k.design k.stimulus k.spelled h) counted-same

  -- ---- compile

  pub compile-like : (a b : Answer) → AnswersCompile hosts source a → AnswersCompile hosts source b → IsLikeAnswer a b
  compile-like = like_answer (AnswersCompile hosts source) (λ none. none) refused-same (λ f text h k. spelled_or_refused f k.design k.stimulus k.spelled h)

  -- ---- aiger

  light_or_heavy : (n : ℕ) → n ≤ most_bits → most_bits < n → ⊥
  light_or_heavy n a b = omega (arith, a, b)

  no_aig-same : IsOne (HasNoAig hosts source)
  no_aig-same =
      either (IsUnspelled hosts source) (HasTooManyBits hosts source) (unspelled-same hosts source) (λ f g a b. a.0 ∙ sym b.0)
      (λ f g a b. spelled_or_not hosts source f b.1.0 b.1.1 a b.1.2)

  no_aig-short : (f : Fault) → HasNoAig hosts source f → length source ≤ longest_source
  no_aig-short f (inl a) = unspelled-short hosts source f a
  no_aig-short f (inr a) = a.1.2.spelled.spelled.short

  light_or_none : (f : Fault) (d : Checked) (s : InputVectors) → Spells hosts source d s → bit_weight d ≤ most_bits → HasNoAig hosts source f → ⊥
  light_or_none f d s spelled light (inl fault) = spelled_or_not hosts source f d s fault spelled
  light_or_none f d s spelled light (inr heavy) =
      light_or_heavy (bit_weight d) light (subst (λ (e : Checked). most_bits < bit_weight e) (same_design hosts source heavy.1.0 d heavy.1.2.spelled spelled.spelled) heavy.1.3)

  -- no source both spells a design with few bits and a stimulus and is refused
  pub light_or_refused : (f : Fault) (d : Checked) (s : InputVectors) → Spells hosts source d s → bit_weight d ≤ most_bits → AnswersAiger hosts source (Refused f) → ⊥
  light_or_refused f d s spelled light = short_or_fault source (HasNoAig hosts source) f spelled.spelled.spelled.short (light_or_none f d s spelled light)

  pub aiger-like : (a b : Answer) → AnswersAiger hosts source a → AnswersAiger hosts source b → IsLikeAnswer a b
  aiger-like =
      like_answer (AnswersAiger hosts source) (λ none. none) (too_long-same source (HasNoAig hosts source) no_aig-same no_aig-short)
      (λ f text h k. light_or_refused f k.design k.stimulus k.spelled k.light h)

  -- ---- sim

  module _ (cycles : ℕ) where
    shown-same : (shown : Shown) (a b : List ℕ) → ShowsRun hosts cycles shown source a → ShowsRun hosts cycles shown source b → a ≡ b
    shown-same shown a b r q =
        r.told
        ∙ ap₂ (λ (d : Checked) (s : InputVectors). text_of_run d s cycles shown) (same_design hosts source r.design q.design r.spelled.spelled q.spelled.spelled)
        (same_stimulus hosts source r.design q.design r.stimulus q.stimulus r.spelled q.spelled)
        ∙ sym q.told

    pub sim-same : (shown : Shown) (a b : Answer) → AnswersSim hosts cycles shown source a → AnswersSim hosts cycles shown source b → IsSameAnswer a b
    sim-same shown =
        let refused = too_long-same source (HasNoRun hosts cycles source) (no_run-same hosts source cycles) (no_run-short hosts source cycles) in
        same_answer (AnswersSim hosts cycles shown source) (λ none. none) refused
        (λ f text h r. short_or_fault source (HasNoRun hosts cycles source) f r.spelled.spelled.spelled.short (λ a. run_or_long hosts source cycles f r.design a r.stimulus r.spelled r.within) h)
        (shown-same shown)

    -- ---- journals

    no_journal-same : IsOne (HasNoJournal hosts cycles source)
    no_journal-same =
        either (HasNoRun hosts cycles source) (RunsTooHeavy hosts cycles source) (no_run-same hosts source cycles) (λ f g a b. a.0 ∙ sym b.0)
        (λ f g a b. run_or_long hosts source cycles f b.1.0 a b.1.1 b.1.2 b.1.3)

    no_journal-short : (f : Fault) → HasNoJournal hosts cycles source f → length source ≤ longest_source
    no_journal-short f (inl a) = no_run-short hosts source cycles f a
    no_journal-short f (inr a) = a.1.2.spelled.spelled.short

    journaled_or_none : (f : Fault) (d : Checked) (s : InputVectors) → HasJournal hosts cycles source d s → HasNoJournal hosts cycles source f → ⊥
    journaled_or_none f d s h (inl none) = run_or_long hosts source cycles f d none s h.spelled h.within
    journaled_or_none f d s h (inr heavy) =
        let both : true ≡ false = sym heavy.1.4 ∙ ap (is_too_heavy cycles) (same_design hosts source heavy.1.0 d heavy.1.2.spelled h.spelled.spelled) ∙ h.light in
        absurd cc

    -- no source both spells a design with a stimulus that has a journal and is refused
    pub journaled_or_refused : (workers : ℕ) (f : Fault) (d : Checked) (s : InputVectors) → HasJournal hosts cycles source d s → AnswersJournal hosts cycles workers source (Refused f) → ⊥
    journaled_or_refused workers f d s h = short_or_fault source (HasNoJournal hosts cycles source) f h.spelled.spelled.spelled.short (journaled_or_none f d s h)

    pub journal-like : (workers : ℕ) (a b : Answer) → AnswersJournal hosts cycles workers source a → AnswersJournal hosts cycles workers source b → IsLikeAnswer a b
    journal-like workers =
        like_answer (AnswersJournal hosts cycles workers source) (λ none. none) (too_long-same source (HasNoJournal hosts cycles source) no_journal-same no_journal-short)
        (λ f text h k. journaled_or_refused workers f k.design k.stimulus k.spelled h)
