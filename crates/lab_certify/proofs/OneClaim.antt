-- A source claims one thing, or has one fault; and with one circuit it has one answer.
use Rattle.std.proofs.Common.{◌≡◌, ◌⊎◌, ◌<◌, ◌≤◌, ℕ, List, Option, Some, None, sym, ap, subst, ◌∙◌, inl, inr, arith}
use Rattle.kw_base.specs.declared.fault.Fault.{Fault}
use Rattle.kw_bits.specs.declared.host.HostSpec.{HostSpec}
use Rattle.koika_check.specs.BitWeights.{bit_weight}
use Rattle.koika_check.specs.declared.checked.Checked.{Checked}
use Rattle.front_end.specs.Aigs.{most_bits}
use Rattle.front_end.specs.Certified.{HasNoParts}
use Rattle.front_end.proofs.OneCertified.{no_parts-same, one_design, parts_or_not}
use Rattle.front_end.proofs.Results.{err-same, ok-same, ok_or_err}
use Rattle.aig_blast.specs.Aigs.{AigParts}
use Rattle.invariant_check.specs.Texts.{text_of}
use Rattle.lab_certify.specs.Certificates.{IsUncertified, ShowsCertified, ShowsObligation, claim_text, fault_in, obligation_in}
use Rattle.lab_certify.specs.Claims.{Claim, Claims, HasNoClaim, HasNoInvariant, HasTooManyBits, InvariantPart, NamesNoRule, SpellsLight, claimed_of, invariant_in, last_part, third_part}

not_both : (m n : ℕ) → m < n → n ≤ m → ⊥
not_both m n a b = omega (arith, a, b)

some-same : {X : Type 0} (a b : X) (found : Option X) → found ≡ Some a → found ≡ Some b → a ≡ b
some-same a b found h k = let both : Some a ≡ Some b = sym h ∙ k in cc

none_or_some : {X : Type 0} (a : X) (found : Option X) → found ≡ None → found ≡ Some a → ⊥
none_or_some a found h k = let both : None ≡ Some a = sym h ∙ k in absurd cc

module _ (hosts : List HostSpec) (bytes : List ℕ) where
  -- ---- claims

  one_light : (d e : Checked) → SpellsLight hosts bytes d → SpellsLight hosts bytes e → d ≡ e
  one_light d e h k = one_design hosts bytes d e h.spelled.first k.spelled.first

  light_or_none : (f : Fault) (d : Checked) → HasNoParts hosts bytes f → SpellsLight hosts bytes d → ⊥
  light_or_none f d none h = parts_or_not hosts bytes f d h.stimulus none h.spelled

  light_or_heavy : (f : Fault) (d : Checked) → HasTooManyBits hosts bytes f → SpellsLight hosts bytes d → ⊥
  light_or_heavy f d (e, (heavy, s, spelled, many)) h =
      not_both most_bits (bit_weight d)
      (subst (λ (x : Checked). most_bits < bit_weight x) (one_design hosts bytes heavy d spelled.first h.spelled.first) many) h.light

  module _ (name : Option (List ℕ)) where
    light-named : (d e : Checked) → SpellsLight hosts bytes d → SpellsLight hosts bytes e
        → claimed_of d name ≡ claimed_of e name
    light-named d e h k = ap (λ (x : Checked). claimed_of x name) (one_light d e h k)

    named_or_not : (f : Fault) (d : Checked) (rules : List ℕ) → NamesNoRule hosts name bytes f
        → SpellsLight hosts bytes d → claimed_of d name ≡ Some rules → ⊥
    named_or_not f d rules (e, (other, spelled, none)) h named =
        none_or_some rules (claimed_of d name) (sym (light-named other d spelled h) ∙ none) named

    module _ (part : InvariantPart) where
      light-read : (d e : Checked) → SpellsLight hosts bytes d → SpellsLight hosts bytes e
          → invariant_in d part ≡ invariant_in e part
      light-read d e h k = ap (λ (x : Checked). invariant_in x part) (one_light d e h k)

      pub claims-same : (a b : Claim) → Claims hosts name part bytes a → Claims hosts name part bytes b → a ≡ b
      claims-same a b h k =
          let design = one_light a.design b.design h.spelled k.spelled in
          let rules =
          some-same a.rules b.rules (claimed_of b.design name)
          (sym (light-named a.design b.design h.spelled k.spelled) ∙ h.named) k.named in
          let invariant =
          ok-same a.invariant b.invariant (invariant_in b.design part)
          (sym (light-read a.design b.design h.spelled k.spelled) ∙ h.read) k.read in
          λ i. record { design = design i; invariant = invariant i; rules = rules i }

      -- no source both claims something and is refused
      pub claims_or_not : (f : Fault) (claim : Claim) → HasNoClaim hosts name part bytes f
          → Claims hosts name part bytes claim → ⊥
      claims_or_not f claim (inl none) h = light_or_none f claim.design none h.spelled
      claims_or_not f claim (inr (inl heavy)) h = light_or_heavy f claim.design heavy h.spelled
      claims_or_not f claim (inr (inr (inl none))) h = named_or_not f claim.design claim.rules none h.spelled h.named
      claims_or_not f claim (inr (inr (inr (d, rules, spelled, named, wrong)))) h =
          ok_or_err claim.invariant f (invariant_in claim.design part) h.read
          (sym (light-read d claim.design spelled h.spelled) ∙ wrong)

      abbrev Late : Fault → Type 0
      Late f = NamesNoRule hosts name bytes f ⊎ HasNoInvariant hosts name part bytes f

      late-light : (f : Fault) → Late f → (d : Checked) × SpellsLight hosts bytes d
      late-light f (inl (e, (d, spelled, none))) = (d, spelled)
      late-light f (inr (d, rules, spelled, named, wrong)) = (d, spelled)

      late-same : (f g : Fault) → Late f → Late g → f ≡ g
      late-same f g (inl a) (inl b) = a.0 ∙ sym b.0
      late-same f g (inl a) (inr (d, rules, spelled, named, wrong)) = absurd (named_or_not f d rules a spelled named)
      late-same f g (inr (d, rules, spelled, named, wrong)) (inl b) = absurd (named_or_not g d rules b spelled named)
      late-same f g (inr (d, rules, spelled, named, wrong)) (inr (e, rules', spelled', named', wrong')) =
          err-same f g (invariant_in e part) (sym (light-read d e spelled spelled') ∙ wrong) wrong'

      pub no_claim-same : (f g : Fault) → HasNoClaim hosts name part bytes f → HasNoClaim hosts name part bytes g → f ≡ g
      no_claim-same f g (inl a) (inl b) = no_parts-same hosts bytes f g a b
      no_claim-same f g (inl a) (inr (inl (e, (d, s, spelled, many)))) = absurd (parts_or_not hosts bytes f d s a spelled)
      no_claim-same f g (inl a) (inr (inr b)) = let light = late-light g b in absurd (light_or_none f light.0 a light.1)
      no_claim-same f g (inr (inl (e, (d, s, spelled, many)))) (inl b) = absurd (parts_or_not hosts bytes g d s b spelled)
      no_claim-same f g (inr (inl a)) (inr (inl b)) = a.0 ∙ sym b.0
      no_claim-same f g (inr (inl a)) (inr (inr b)) =
          let light = late-light g b in absurd (light_or_heavy f light.0 a light.1)
      no_claim-same f g (inr (inr a)) (inl b) = let light = late-light f a in absurd (light_or_none g light.0 b light.1)
      no_claim-same f g (inr (inr a)) (inr (inl b)) =
          let light = late-light f a in absurd (light_or_heavy g light.0 b light.1)
      no_claim-same f g (inr (inr a)) (inr (inr b)) = late-same f g a b

    -- ---- what is written and refused, with one circuit

    module _ (circuit : AigParts) where
      pub obligations-same : (a b : List ℕ) → ShowsObligation circuit hosts name bytes a
          → ShowsObligation circuit hosts name bytes b → a ≡ b
      obligations-same a b h k =
          let same = claims-same (last_part bytes) h.claim k.claim h.claims k.claims in
          h.told ∙ ap (λ (claim : Claim). text_of circuit (obligation_in circuit claim)) same ∙ sym k.told

      pub obligation_or_not : (f : Fault) (text : List ℕ) → HasNoClaim hosts name (last_part bytes) bytes f
          → ShowsObligation circuit hosts name bytes text → ⊥
      obligation_or_not f text none h = claims_or_not (last_part bytes) f h.claim none h.claims

      pub certified-same : (a b : List ℕ) → ShowsCertified circuit hosts name bytes a
          → ShowsCertified circuit hosts name bytes b → a ≡ b
      certified-same a b h k =
          h.told ∙ ap claim_text (claims-same (third_part bytes) h.claim k.claim h.claims k.claims) ∙ sym k.told

      pub refuted_or_not : (f : Fault) (text : List ℕ) → IsUncertified circuit hosts name bytes f
          → ShowsCertified circuit hosts name bytes text → ⊥
      refuted_or_not f text (inl none) h = claims_or_not (third_part bytes) f h.claim none h.claims
      refuted_or_not f text (inr (claim, claims, is, is_of, wrong)) h =
          let same = claims-same (third_part bytes) h.claim claim h.claims claims in
          none_or_some f (fault_in bytes (obligation_in circuit claim))
          (sym (ap (λ (x : Claim). fault_in bytes (obligation_in circuit x)) same) ∙ h.taken) wrong

      pub uncertified-same : (f g : Fault) → IsUncertified circuit hosts name bytes f
          → IsUncertified circuit hosts name bytes g → f ≡ g
      uncertified-same f g (inl a) (inl b) = no_claim-same (third_part bytes) f g a b
      uncertified-same f g (inl a) (inr (claim, claims, is, is_of, wrong)) =
          absurd (claims_or_not (third_part bytes) f claim a claims)
      uncertified-same f g (inr (claim, claims, is, is_of, wrong)) (inl b) =
          absurd (claims_or_not (third_part bytes) g claim b claims)
      uncertified-same f g (inr (claim, claims, is, is_of, wrong)) (inr (other, claims', is', is_of', wrong')) =
          let same = claims-same (third_part bytes) claim other claims claims' in
          some-same f g (fault_in bytes (obligation_in circuit other))
          (sym (ap (λ (x : Claim). fault_in bytes (obligation_in circuit x)) same) ∙ wrong) wrong'
