-- Faults of two kinds: where a source has one fault at most of each, and not of both, it has one at most of either.
use Rattle.std.proofs.Common.{◌≡◌, ◌⊎◌, inl, inr}
use Rattle.kw_base.specs.declared.fault.Fault.{Fault}

-- one fault at most is of this kind
abbrev pub IsOne : (Fault → Type 0) → Type 0
IsOne Is = (f g : Fault) → Is f → Is g → f ≡ g

pub either : (Is Other : Fault → Type 0) → IsOne Is → IsOne Other → ((f g : Fault) → Is f → Other g → ⊥) → IsOne (λ f. Is f ⊎ Other f)
either Is Other one other apart f g (inl a) (inl b) = one f g a b
either Is Other one other apart f g (inl a) (inr b) = absurd (apart f g a b)
either Is Other one other apart f g (inr a) (inl b) = absurd (apart g f b a)
either Is Other one other apart f g (inr a) (inr b) = other f g a b
