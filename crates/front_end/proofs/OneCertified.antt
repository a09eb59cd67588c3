-- A source with a certificate spells one design and one stimulus, or has one fault of them.
use Rattle.std.proofs.Common.{◌≡◌, ◌⊎◌, ◌<◌, ◌≤◌, ℕ, List, length, refl, sym, ap, ◌∙◌, inl, inr, ⊎_elim, arith}
use Rattle.std.proofs.lemmas.Bool.{cases_lt}
use Rattle.kw_base.specs.declared.fault.Fault.{Fault}
use Rattle.kw_bits.specs.declared.host.HostSpec.{HostSpec}
use Rattle.one_rule.specs.Stimulus.{InputVectors}
use Rattle.koika_check.specs.declared.checked.Checked.{Checked}
use Rattle.front_end.specs.Certified.{HasNoDesign, HasNoParts, IsTooLong, SpellsBoth, SpellsFirst, longest_certified, parts_of, stimulus_in}
use Rattle.front_end.specs.Sources.{fault_of_source, longest_source}
use Rattle.front_end.proofs.OneSource.{ill-same, ill-short, same_design, typed_or_not}
use Rattle.front_end.proofs.Results.{err-same, ok-same, ok_or_err}
use Rattle.front_end.proofs.SomeSource.{design_or_fault, stimulus_told}

not_both : (m n : ℕ) → m < n → n ≤ m → ⊥
not_both m n a b = omega (arith, a, b)

module _ (hosts : List HostSpec) (bytes : List ℕ) where
  abbrev design_text : List ℕ
  design_text = (parts_of bytes).design

  -- ---- one at most

  pub one_design : (d e : Checked) → SpellsFirst hosts bytes d → SpellsFirst hosts bytes e → d ≡ e
  one_design d e h k = same_design hosts design_text d e h.spelled k.spelled

  pub one_stimulus : (d e : Checked) (s r : InputVectors) → SpellsBoth hosts bytes d s → SpellsBoth hosts bytes e r → s ≡ r
  one_stimulus d e s r h k = ok-same s r (stimulus_in bytes e) (sym (ap (stimulus_in bytes) (one_design d e h.first k.first)) ∙ h.given) k.given

  long_or_first : (f : Fault) (d : Checked) → IsTooLong bytes f → SpellsFirst hosts bytes d → ⊥
  long_or_first f d (e, inl long) h = not_both longest_certified (length bytes) long h.short
  long_or_first f d (e, inr long) h = not_both longest_source (length design_text) long h.spelled.spelled.short

  typed_or_none : (f : Fault) (d : Checked) → HasNoDesign hosts bytes f → SpellsFirst hosts bytes d → ⊥
  typed_or_none f d none h = typed_or_not hosts design_text f d none.1 h.spelled

  -- no source both spells them and has such a fault
  pub parts_or_not : (f : Fault) (d : Checked) (s : InputVectors) → HasNoParts hosts bytes f → SpellsBoth hosts bytes d s → ⊥
  parts_or_not f d s (inl long) h = long_or_first f d long h.first
  parts_or_not f d s (inr (inl none)) h = typed_or_none f d none h.first
  parts_or_not f d s (inr (inr none)) h = ok_or_err s f (stimulus_in bytes d) h.given (sym (ap (stimulus_in bytes) (one_design none.0 d none.1 h.first)) ∙ none.2)

  long_or_none : (f g : Fault) → IsTooLong bytes f → HasNoDesign hosts bytes g → ⊥
  long_or_none f g (e, inl long) none = not_both longest_certified (length bytes) long none.0
  long_or_none f g (e, inr long) none = not_both longest_source (length design_text) long (ill-short hosts design_text g none.1)

  pub no_parts-same : (f g : Fault) → HasNoParts hosts bytes f → HasNoParts hosts bytes g → f ≡ g
  no_parts-same f g (inl a) (inl b) = a.0 ∙ sym b.0
  no_parts-same f g (inl a) (inr (inl b)) = absurd (long_or_none f g a b)
  no_parts-same f g (inl a) (inr (inr b)) = absurd (long_or_first f b.0 a b.1)
  no_parts-same f g (inr (inl a)) (inl b) = absurd (long_or_none g f b a)
  no_parts-same f g (inr (inl a)) (inr (inl b)) = ill-same hosts design_text f g a.1 b.1
  no_parts-same f g (inr (inl a)) (inr (inr b)) = absurd (typed_or_none f b.0 a b.1)
  no_parts-same f g (inr (inr a)) (inl b) = absurd (long_or_first g a.0 b a.1)
  no_parts-same f g (inr (inr a)) (inr (inl b)) = absurd (typed_or_none g a.0 b a.1)
  no_parts-same f g (inr (inr a)) (inr (inr b)) = err-same f g (stimulus_in bytes b.0) (sym (ap (stimulus_in bytes) (one_design a.0 b.0 a.1 b.1)) ∙ a.2) b.2

  -- ---- and some

  abbrev pub Found : Type 0
  Found = (d : Checked) × (s : InputVectors) × SpellsBoth hosts bytes d s

  stimulus_of_first : (d : Checked) → SpellsFirst hosts bytes d → Found ⊎ ((fault : Fault) × HasNoParts hosts bytes fault)
  stimulus_of_first d first =
      ⊎_elim
      (λ given. inl (d, given.0, record { first = first; given = given.1 }))
      (λ wrong. inr (wrong.0, inr (inr (d, first, wrong.1))))
      (stimulus_told (stimulus_in bytes d))

  -- each source spells a design and a stimulus, or has a fault
  pub parts_or_fault : Found ⊎ ((fault : Fault) × HasNoParts hosts bytes fault)
  parts_or_fault =
      ⊎_elim
      (λ long. inr (fault_of_source 40, inl (refl, inl long)))
      (λ short.
      ⊎_elim
      (λ long. inr (fault_of_source 40, inl (refl, inr long)))
      (λ brief.
      ⊎_elim
      (λ found. stimulus_of_first found.0 (record { short = short; spelled = found.1 }))
      (λ wrong. inr (wrong.0, inr (inl (short, wrong.1))))
      (design_or_fault hosts design_text brief))
      (cases_lt longest_source (length design_text)))
      (cases_lt longest_certified (length bytes))
