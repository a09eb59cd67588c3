-- A claim isn't refused, and one that is refuted isn't either.
use Rattle.std.proofs.Common.{◌≡◌, ℕ, List, Option, None, Some, sym, ap, ◌∙◌, inl, inr}
use Rattle.kw_base.specs.declared.fault.Fault.{Fault}
use Rattle.kw_bits.specs.declared.host.HostSpec.{HostSpec}
use Rattle.aig_blast.specs.Aigs.{AigParts}
use Rattle.lab_certify.specs.Certificates.{IsUncertified, fault_in, obligation_in}
use Rattle.lab_certify.specs.Claims.{Claim, Claims, HasNoClaim, last_part, third_part}
use Rattle.lab_certify.proofs.OneClaim.{claims-same, claims_or_not}

module _ (circuit : AigParts) (hosts : List HostSpec) (name : Option (List ℕ)) (source : List ℕ) (claim : Claim) (fault : Fault) where
  pub claim-taken : Claims hosts name (last_part source) source claim
      → HasNoClaim hosts name (last_part source) source fault → ⊥
  claim-taken claims none = claims_or_not hosts source name (last_part source) fault claim none claims

  pub certificate-taken : Claims hosts name (third_part source) source claim
      → fault_in source (obligation_in circuit claim) ≡ None → IsUncertified circuit hosts name source fault → ⊥
  certificate-taken claims taken (inl none) = claims_or_not hosts source name (third_part source) fault claim none claims
  certificate-taken claims taken (inr (other, others, is, is_of, wrong)) =
      let same = claims-same hosts source name (third_part source) claim other claims others in
      let bad : None ≡ Some fault =
      sym taken ∙ ap (λ (x : Claim). fault_in source (obligation_in circuit x)) same ∙ wrong in
      absurd cc
