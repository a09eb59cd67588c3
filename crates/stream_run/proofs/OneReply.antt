-- Bytes have one reply.
use Rattle.std.proofs.Common.{◌≡◌, ◌⊎◌, ◌≤◌, ℕ, List, length, refl, sym, ap, ◌∙◌, inl, inr, ⊎_elim}
use Rattle.std.proofs.lemmas.Bool.{cases_lt}
use Rattle.kw_base.specs.declared.fault.Fault.{Fault}
use Rattle.kw_bits.specs.declared.host.HostSpec.{HostSpec}
use Rattle.koika_check.specs.declared.checked.Checked.{Checked}
use Rattle.front_end.specs.Sources.{IsIllTyped, IsTooLong, SpellsDesign, fault_of_source, longest_source}
use Rattle.front_end.proofs.Either.{IsOne}
use Rattle.front_end.proofs.OneSource.{ill-same, ill-short, long_or_spelled, same_design, too_long-same, typed_or_not}
use Rattle.front_end.proofs.SomeSource.{design_or_fault}
use Rattle.stream_run.specs.Lines.{head_of, heard}
use Rattle.stream_run.specs.Replies.{Answers, Reply, refusal, reply_to}

module _ (hosts : List HostSpec) (bytes : List ℕ) where
  abbrev head : List ℕ
  head = head_of bytes

  abbrev IsRefused : Fault → Type 0
  IsRefused fault = IsTooLong head fault ⊎ IsIllTyped hosts head fault

  refused-same : IsOne IsRefused
  refused-same = too_long-same head (IsIllTyped hosts head) (ill-same hosts head) (ill-short hosts head)

  refused_or_run : (f : Fault) (d : Checked) → IsRefused f → SpellsDesign hosts head d → ⊥
  refused_or_run f d (inl a) spelled = long_or_spelled hosts head f d a spelled
  refused_or_run f d (inr a) spelled = typed_or_not hosts head f d a spelled

  pub one_reply : (a b : Reply) → Answers hosts bytes a → Answers hosts bytes b → a ≡ b
  one_reply a b (inl h) (inl k) = h.2 ∙ ap refusal (refused-same h.0 k.0 h.1 k.1) ∙ sym k.2
  one_reply a b (inl h) (inr k) = absurd (refused_or_run h.0 k.0 h.1 k.1)
  one_reply a b (inr h) (inl k) = absurd (refused_or_run k.0 h.0 k.1 h.1)
  one_reply a b (inr h) (inr k) =
      h.2 ∙ ap (λ (d : Checked). reply_to d (heard d bytes)) (same_design hosts head h.0 k.0 h.1 k.1) ∙ sym k.2

  pub some_reply : (reply : Reply) × Answers hosts bytes reply
  some_reply =
      ⊎_elim
      (λ long. (refusal (fault_of_source 40), inl (fault_of_source 40, inl (refl, long), refl)))
      (λ short.
      ⊎_elim
      (λ found. (reply_to found.0 (heard found.0 bytes), inr (found.0, found.1, refl)))
      (λ wrong. (refusal wrong.0, inl (wrong.0, inr wrong.1, refl)))
      (design_or_fault hosts head short))
      (cases_lt longest_source (length head))
