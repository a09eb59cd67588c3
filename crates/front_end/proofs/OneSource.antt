-- A source spells one design and one stimulus, or has one fault.
use Rattle.std.proofs.Common.{◌≡◌, ◌⊎◌, ℕ, ◌<◌, ◌≤◌, inl, inr, true, false, List, length, sym, ap, subst, ◌∙◌, arith}
use Rattle.kw_base.specs.Fault.{fault_at}
use Rattle.kw_base.specs.Place.{place_at}
use Rattle.kw_base.specs.declared.fault.Fault.{Fault}
use Rattle.koika_syntax.specs.Grammar.{Derives}
use Rattle.koika_syntax.specs.Tokens.{AreTokensOf}
use Rattle.koika_syntax.specs.declared.token.Token.{Token}
use Rattle.koika_syntax.specs.declared.tree.Tree.{Tree}
use Rattle.koika_syntax.proofs.Cuts.{one_fault, one_list, tokens_or_fault}
use Rattle.koika_parse.specs.Faults.{StandsBetween}
use Rattle.koika_parse.proofs.OneFault as grammar
use Rattle.koika_parse.proofs.Unambiguous.{one_tree}
use Rattle.koika_check.specs.Checks.{checked}
use Rattle.koika_check.specs.Outcomes.{CheckResult, Fails, Gives}
use Rattle.koika_check.specs.declared.checked.Checked.{Checked}
use Rattle.koika_check.specs.declared.stop.Wrong.{Wrong}
use Rattle.one_rule.specs.Stimulus.{InputVectors}
use Rattle.kw_bits.specs.declared.host.HostSpec.{HostSpec}
use Rattle.front_end.specs.Lengths.{HasNoRun, RunsTooLong, is_too_long_for}
use Rattle.front_end.specs.Sources.{HasNoDesign, HasNoStimulus, HasNoTokens, HasNoTree, IsIllTyped, IsTooLong, IsUnread, IsUnspelled, Spells, SpellsDesign, SpellsTree, design_part, longest_source, stimulus_in}
use Rattle.front_end.proofs.Either.{IsOne, either}
use Rattle.front_end.proofs.Results.{err-same, ok-same, ok_or_err}

pub gives-same : {X : Type 0} (x y : X) (o : CheckResult X) → o ≡ Gives x → o ≡ Gives y → x ≡ y
gives-same x y o h k = let e : Gives x ≡ Gives y = sym h ∙ k in cc

pub fails-same : {X : Type 0} (w v : Wrong) (o : CheckResult X) → o ≡ Fails w → o ≡ Fails v → w ≡ v
fails-same {X} w v o h k = let e : ◌≡◌ {A = CheckResult X} (Fails w) (Fails v) = sym h ∙ k in cc

pub gives_or_fails : {X : Type 0} (x : X) (w : Wrong) (o : CheckResult X) → o ≡ Gives x → o ≡ Fails w → ⊥
gives_or_fails x w o h k = let e : Gives x ≡ Fails w = sym h ∙ k in absurd cc

-- ---- tokens and trees

pub not_both_lengths : (n : ℕ) → longest_source < n → n ≤ longest_source → ⊥
not_both_lengths n a b = omega arith

module _ (source : List ℕ) where
  pub same_tree : (t u : Tree) → SpellsTree source t → SpellsTree source u → t ≡ u
  same_tree t u h k =
      one_tree (design_part source) h.tokens t u h.derived (subst (Derives (design_part source) u) (one_list (design_part source) k.tokens h.tokens k.are h.are) k.derived)

  pub unread-short : (f : Fault) → IsUnread source f → length source ≤ longest_source
  unread-short f (inl a) = a.0
  unread-short f (inr a) = a.0

  pub stands-same : (f : Fault) (tokens : List Token) → AreTokensOf tokens (design_part source) → (a : HasNoTree source f) → StandsBetween (design_part source) tokens f
  stands-same f tokens are a =
      subst (λ ts. StandsBetween (design_part source) ts f) (one_list (design_part source) a.1.0 tokens a.1.1 are) a.1.2

  pub unread-same : IsOne (IsUnread source)
  unread-same =
      either (HasNoTokens source) (HasNoTree source) (λ f g a b. one_fault (design_part source) f g a.1 b.1)
      (λ f g a b. grammar.one_fault (design_part source) b.1.0 f g (stands-same f b.1.0 b.1.1 a) b.1.2)
      (λ f g a b. tokens_or_fault (design_part source) b.1.0 f b.1.1 a.1)

  -- a source that spells a tree has no fault of its tokens or of the grammar
  pub read_or_not : (f : Fault) (t : Tree) → IsUnread source f → SpellsTree source t → ⊥
  read_or_not f t (inl a) h = tokens_or_fault (design_part source) h.tokens f h.are a.1
  read_or_not f t (inr a) h = grammar.no_fault (design_part source) h.tokens t f h.derived h.few (stands-same f h.tokens h.are a)

  -- a source that is too long, or else has one fault, has one fault
  pub too_long-same : (Is : Fault → Type 0) → IsOne Is → ((f : Fault) → Is f → length source ≤ longest_source) → IsOne (λ f. IsTooLong source f ⊎ Is f)
  too_long-same Is one short = either (IsTooLong source) Is (λ f g a b. a.0 ∙ sym b.0) one (λ f g a b. not_both_lengths (length source) a.1 (short g b))

  -- one that is short and has no such fault has none
  pub short_or_fault : (Is : Fault → Type 0) (f : Fault) → length source ≤ longest_source → (Is f → ⊥) → IsTooLong source f ⊎ Is f → ⊥
  short_or_fault Is f short none (inl a) = not_both_lengths (length source) a.1 short
  short_or_fault Is f short none (inr a) = none a

-- ---- typed designs

module _ (hosts : List HostSpec) (source : List ℕ) where
  pub same_outcome : (t u : Tree) → SpellsTree source t → SpellsTree source u → checked hosts t ≡ checked hosts u
  same_outcome t u h k = ap (checked hosts) (same_tree source t u h k)

  pub same_design : (d e : Checked) → SpellsDesign hosts source d → SpellsDesign hosts source e → d ≡ e
  same_design d e h k = gives-same d e (checked hosts k.tree) (sym (same_outcome h.tree k.tree h.spelled k.spelled) ∙ h.typed) k.typed

  pub ill-short : (f : Fault) → IsIllTyped hosts source f → length source ≤ longest_source
  ill-short f (inl a) = unread-short source f a
  ill-short f (inr a) = a.2.short

  no_design-same : IsOne (HasNoDesign hosts source)
  no_design-same f g a b =
      let same = fails-same a.1 b.1 (checked hosts b.0) (sym (same_outcome a.0 b.0 a.2 b.2) ∙ a.3) b.3 in
      a.4 ∙ ap (λ (w : Wrong). fault_at w.number (place_at (design_part source) w.place)) same ∙ sym b.4

  pub ill-same : IsOne (IsIllTyped hosts source)
  ill-same = either (IsUnread source) (HasNoDesign hosts source) (unread-same source) no_design-same (λ f g a b. read_or_not source f b.0 a b.2)

  pub typed_or_not : (f : Fault) (d : Checked) → IsIllTyped hosts source f → SpellsDesign hosts source d → ⊥
  typed_or_not f d (inl a) h = read_or_not source f h.tree a h.spelled
  typed_or_not f d (inr a) h = gives_or_fails d a.1 (checked hosts h.tree) h.typed (sym (same_outcome a.0 h.tree a.2 h.spelled) ∙ a.3)

  -- ---- stimuli

  pub stimulus-same : (d e : Checked) → SpellsDesign hosts source d → SpellsDesign hosts source e → stimulus_in source d ≡ stimulus_in source e
  stimulus-same d e h k = ap (stimulus_in source) (same_design d e h k)

  pub unspelled-short : (f : Fault) → IsUnspelled hosts source f → length source ≤ longest_source
  unspelled-short f (inl a) = ill-short f a
  unspelled-short f (inr a) = a.1.spelled.short

  pub unspelled-same : IsOne (IsUnspelled hosts source)
  unspelled-same =
      either (IsIllTyped hosts source) (HasNoStimulus hosts source) ill-same
      (λ f g a b. err-same f g (stimulus_in source b.0) (sym (stimulus-same a.0 b.0 a.1 b.1) ∙ a.2) b.2) (λ f g a b. typed_or_not f b.0 a b.1)

  pub spelled_or_not : (f : Fault) (d : Checked) (s : InputVectors) → IsUnspelled hosts source f → Spells hosts source d s → ⊥
  spelled_or_not f d s (inl a) h = typed_or_not f d a h.spelled
  spelled_or_not f d s (inr a) h = ok_or_err s f (stimulus_in source d) h.given (sym (stimulus-same a.0 d a.1 h.spelled) ∙ a.2)

  pub same_stimulus : (d e : Checked) (s r : InputVectors) → Spells hosts source d s → Spells hosts source e r → s ≡ r
  same_stimulus d e s r h k = ok-same s r (stimulus_in source e) (sym (stimulus-same d e h.spelled k.spelled) ∙ h.given) k.given

  pub long_or_spelled : (f : Fault) (d : Checked) → IsTooLong source f → SpellsDesign hosts source d → ⊥
  long_or_spelled f d a h = not_both_lengths (length source) a.1 h.spelled.short

  -- ---- runs

  module _ (cycles : ℕ) where
    pub no_run-short : (f : Fault) → HasNoRun hosts cycles source f → length source ≤ longest_source
    no_run-short f (inl a) = unspelled-short f a
    no_run-short f (inr a) = a.1.2.spelled.spelled.short

    pub no_run-same : IsOne (HasNoRun hosts cycles source)
    no_run-same = either (IsUnspelled hosts source) (RunsTooLong hosts cycles source) unspelled-same (λ f g a b. a.0 ∙ sym b.0) (λ f g a b. spelled_or_not f b.1.0 b.1.1 a b.1.2)

    -- a design whose run isn't too long has no run that is
    pub run_or_long : (f : Fault) (d : Checked) → HasNoRun hosts cycles source f → (s : InputVectors) → Spells hosts source d s → is_too_long_for cycles d ≡ false → ⊥
    run_or_long f d (inl a) s spelled within = spelled_or_not f d s a spelled
    run_or_long f d (inr a) s spelled within =
        let both : true ≡ false = sym a.1.3 ∙ ap (is_too_long_for cycles) (same_design a.1.0 d a.1.2.spelled spelled.spelled) ∙ within in
        absurd cc
