-- Answers are alike where their faults are, their texts are, and no source is both refused and answered.
use Rattle.std.proofs.Common.{◌≡◌, List, ℕ, refl, ap}
use Rattle.kw_base.specs.declared.fault.Fault.{Fault}
use Rattle.front_end.specs.declared.answer.Answer.{Answer}
use Rattle.front_end.specs.declared.answer.Answer.TheVariants.{Usage, Refused, Written}
use Rattle.front_end.specs.declared.status.Status.TheVariants as status
use Rattle.front_end.proofs.Either.{IsOne}
use Rattle.koika_top.specs.Answer.{IsLikeAnswer, IsSameAnswer, text_of}

module _ (Is : Answer → Type 0) (none : Is Usage → ⊥) (one : IsOne (λ f. Is (Refused f))) (apart : (f : Fault) (text : List ℕ) → Is (Refused f) → Is (Written text) → ⊥) where
  pub same_answer : ((s t : List ℕ) → Is (Written s) → Is (Written t) → s ≡ t) → (a b : Answer) → Is a → Is b → IsSameAnswer a b
  same_answer told Usage b h k = absurd (none h)
  same_answer told (Refused f) Usage h k = absurd (none k)
  same_answer told (Refused f) (Refused g) h k = record { status = refl; text = ap (λ fault. text_of (Refused fault)) (one f g h k) }
  same_answer told (Refused f) (Written t) h k = absurd (apart f t h k)
  same_answer told (Written s) Usage h k = absurd (none k)
  same_answer told (Written s) (Refused g) h k = absurd (apart g s k h)
  same_answer told (Written s) (Written t) h k = record { status = refl; text = told s t h k }

  -- several texts may be written
  pub like_answer : (a b : Answer) → Is a → Is b → IsLikeAnswer a b
  like_answer Usage b h k = absurd (none h)
  like_answer (Refused f) Usage h k = absurd (none k)
  like_answer (Refused f) (Refused g) h k = record { status = refl; refusal = λ e. ap (λ fault. text_of (Refused fault)) (one f g h k) }
  like_answer (Refused f) (Written t) h k = absurd (apart f t h k)
  like_answer (Written s) Usage h k = absurd (none k)
  like_answer (Written s) (Refused g) h k = absurd (apart g s k h)
  like_answer (Written s) (Written t) h k = record { status = refl; refusal = λ e. let bad : status.Done ≡ status.Refused = e in absurd cc }
