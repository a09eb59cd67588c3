-- Sources, event by event.
use Rattle.std.proofs.Common.{◌≡◌, ◌⊎◌, inl, inr, ℕ, zero, suc, ◌+◌, ◌≤◌, ◌<◌, Bool, true, false, List, [], ◌∷◌, ◌++◌, length, Option, Some, refl, sym, ap, ◌∙◌, subst, arith}
use Rattle.std.specs.Prelude.{IfSome, slice_get, slice_index_or, take, if◌then◌else◌}
use Rattle.std.proofs.Math.Seq.{get_or-append_seam, take-suc}
use Rattle.std.proofs.lemmas.Bool.{cases_lt}
use Rattle.std.proofs.lemmas.List.{get_or_append_left}
use Rattle.std.proofs.lemmas.Option.{get_or_from_slice_get, slice_get_within}
use Rattle.kw_bits.specs.BitVector.{BitVector}
use Rattle.typed_core.specs.Alone.{is_write_below, seen}
use Rattle.typed_core.specs.Fits.{EventFits, EventsFit}
use Rattle.typed_core.specs.declared.access.Event.{Event}
use Rattle.attempt_log.specs.Sources.{IsSource, value_from, value_or}

seen-push : (port register : ℕ) (es : List Event) (e : Event) (start : BitVector) → seen port register (es ++ e ∷ []) start ≡ (if is_write_below port register e.access then e.value else seen port register es start)
seen-push port register [] e start = refl
seen-push port register (x ∷ es) e start = seen-push port register es e (if is_write_below port register x.access then x.value else start)

-- before the first event, a read gets the start value
pub source_first : (events : List Event) (port register : ℕ) → IsSource events 0 port register 0
source_first events port register = record { within = omega arith; gives = λ start. refl }

-- after an event, a read gets its value where it is a write below, and else what it got before
pub source_next : (events : List Event) (number port register : ℕ) (e : Event) (old new : ℕ) → slice_get events number ≡ Some e → IsSource events number port register old
    → new ≡ (if is_write_below port register e.access then number + 1 else old) → IsSource events (number + 1) port register new
source_next events number port register e old new here s is = subst (IsSource events (number + 1) port register) (sym is) (chosen (is_write_below port register e.access) refl)
  where
    one : number + 1 ≡ suc number
    one = omega arith

    next : take (number + 1) events ≡ take number events ++ e ∷ []
    next =
        ap (λ (n : ℕ). take n events) one
        ∙ take-suc events number e (slice_get_within events number e here)
        ∙ ap (λ (x : Event). take number events ++ x ∷ []) (get_or_from_slice_get events number e e here)

    sees : (b : Bool) → is_write_below port register e.access ≡ b → (start : BitVector) → seen port register (take (number + 1) events) start ≡ (if b then e.value else seen port register (take number events) start)
    sees b f start =
        ap (λ (es : List Event). seen port register es start) next
        ∙ seen-push port register (take number events) e start
        ∙ ap (λ (b : Bool). if b then e.value else seen port register (take number events) start) f

    chosen : (b : Bool) → is_write_below port register e.access ≡ b → IsSource events (number + 1) port register (if b then number + 1 else old)
    chosen true f = record { within = omega arith; gives = λ start. sees true f start ∙ sym (ap (value_from events start) one ∙ ap (value_or start) here) }
    chosen false f = record { within = omega (arith, s.within); gives = λ start. sees false f start ∙ s.gives start }

-- an event of a list that fits, fits
pub fit_at : (widths : List ℕ) (events : List Event) (number : ℕ) (e : Event) → EventsFit widths events → slice_get events number ≡ Some e → EventFits widths e
fit_at widths [] number e all is = absurd cc
fit_at widths (x ∷ events) zero e all is = subst (λ (o : Option Event). IfSome o (EventFits widths)) is all.0
fit_at widths (x ∷ events) (suc number) e all is = fit_at widths events number e all.1 is

-- the sources so far, and one more
pub sources_push : (events : List Event) (sources : List ℕ) (number source : ℕ) (now : Event) → length sources ≡ number → slice_get events number ≡ Some now
    → ((k : ℕ) (e : Event) → k < number → slice_get events k ≡ Some e → IsSource events k e.access.port e.access.register (slice_index_or sources k 0))
    → IsSource events number now.access.port now.access.register source
    → (k : ℕ) (e : Event) → k < number + 1 → slice_get events k ≡ Some e → IsSource events k e.access.port e.access.register (slice_index_or (sources ++ source ∷ []) k 0)
sources_push events sources number source now count here each last k e inside is = chosen (cases_lt k number)
  where
    chosen : (k < number) ⊎ (number ≤ k) → IsSource events k e.access.port e.access.register (slice_index_or (sources ++ source ∷ []) k 0)
    chosen (inl less) = subst (IsSource events k e.access.port e.access.register) (sym (get_or_append_left sources (source ∷ []) 0 k (omega (arith, less, count)))) (each k e less is)
    chosen (inr least) =
        let same : k ≡ number = omega (arith, inside, least) in
        let found : slice_index_or (sources ++ source ∷ []) k 0 ≡ source =
        ap (λ (n : ℕ). slice_index_or (sources ++ source ∷ []) n 0) (same ∙ sym count) ∙ get_or-append_seam sources source [] 0 in
        subst (IsSource events k e.access.port e.access.register) (sym found)
        (subst (λ (n : ℕ). IsSource events n e.access.port e.access.register source) (sym same)
        (subst (λ (o : Option Event). IfSome o (λ (x : Event). IsSource events number x.access.port x.access.register source)) (sym here ∙ ap (slice_get events) (sym same) ∙ is) last))
