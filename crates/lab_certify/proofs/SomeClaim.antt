-- A source claims something, or has a fault.
use Rattle.std.proofs.Common.{◌≡◌, ◌⊎◌, ℕ, List, Option, Some, None, Result, Ok, Err, refl, inl, inr, ⊎_elim}
use Rattle.std.proofs.lemmas.Bool.{cases_lt}
use Rattle.kw_base.specs.declared.fault.Fault.{Fault}
use Rattle.kw_bits.specs.declared.host.HostSpec.{HostSpec}
use Rattle.koika_check.specs.BitWeights.{bit_weight}
use Rattle.koika_check.specs.declared.checked.Checked.{Checked}
use Rattle.one_rule.specs.Stimulus.{InputVectors}
use Rattle.front_end.specs.Aigs.{most_bits}
use Rattle.front_end.specs.Certified.{SpellsBoth}
use Rattle.front_end.specs.Sources.{fault_of_source}
use Rattle.front_end.proofs.OneCertified.{parts_or_fault}
use Rattle.lab_certify.specs.Claims.{Claim, Claims, HasNoClaim, InvariantPart, SpellsLight, claimed_of, invariant_in}

option_cases : {X : Type 0} (found : Option X) → ((x : X) × (found ≡ Some x)) ⊎ (found ≡ None)
option_cases (Some x) = inl (x, refl)
option_cases None = inr refl

result_cases : {X : Type 0} (read : Result X Fault) → ((x : X) × (read ≡ Ok x)) ⊎ ((fault : Fault) × (read ≡ Err fault))
result_cases (Ok x) = inl (x, refl)
result_cases (Err fault) = inr (fault, refl)

module _ (hosts : List HostSpec) (bytes : List ℕ) where
  module _ (name : Option (List ℕ)) (part : InvariantPart) where
    abbrev Found : Type 0
    Found = ((claim : Claim) × Claims hosts name part bytes claim) ⊎ ((f : Fault) × HasNoClaim hosts name part bytes f)

    invariant : (d : Checked) (rules : List ℕ) → SpellsLight hosts bytes d → claimed_of d name ≡ Some rules → Found
    invariant d rules spelled named =
        ⊎_elim
        (λ found.
        inl (
          record { design = d; invariant = found.0; rules = rules },
          record { spelled = spelled; named = named; read = found.1 },
        ))
        (λ wrong. inr (wrong.0, inr (inr (inr (d, rules, spelled, named, wrong.1)))))
        (result_cases (invariant_in d part))

    rules : (d : Checked) → SpellsLight hosts bytes d → Found
    rules d spelled =
        ⊎_elim
        (λ found. invariant d found.0 spelled found.1)
        (λ none. inr (fault_of_source 90, inr (inr (inl (refl, (d, spelled, none))))))
        (option_cases (claimed_of d name))

    light : (d : Checked) (s : InputVectors) → SpellsBoth hosts bytes d s → Found
    light d s spelled =
        ⊎_elim
        (λ heavy. inr (fault_of_source 48, inr (inl (refl, (d, s, spelled, heavy)))))
        (λ few. rules d (record { stimulus = s; spelled = spelled; light = few }))
        (cases_lt most_bits (bit_weight d))

    pub claim_or_fault : Found
    claim_or_fault =
        ⊎_elim (λ found. light found.0 found.1 found.2) (λ wrong. inr (wrong.0, inl wrong.1)) (parts_or_fault hosts bytes)
