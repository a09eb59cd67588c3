use Rattle.std.proofs.Common.{◌≡◌, ◌<◌, ◌+◌, refl, ℕ, length, Some, List, sym, ap, ◌∙◌, subst, arith}
use Rattle.std.specs.Prelude.{slice_get, slice_index_or}
use Rattle.std.proofs.lemmas.List.{length_push}
use Rattle.std.proofs.lemmas.Option.{slice_get_read, slice_get_within}
use Rattle.typed_core.specs.declared.access.Event.{Event}
use Rattle.attempt_log.specs.Sources.{IsSource}
use Rattle.attempt_log.proofs.LookBack.{sources_push}
use Rattle.attempt_log.proofs.sources.looked_back.Goals as goal

pub loop-number-preserved : goal.loop-number-preserved
loop-number-preserved c =
    let events : List Event = c.args.events.now in
    let number = c.loop-number.number in
    let e : Event = c.index-events-number.result in
    let h = c.loop-number.invariant in
    let here : slice_get events number ≡ Some e = slice_get_read events (length events) number e refl c.loop-number-test.true c.index-events-number.is in
    let source = c.source_before.result in
    record {
      count = ap length c.push_reserved.ensures.items ∙ length_push c.loop-number.sources.items source ∙ ap (λ (n : ℕ). n + 1) h.count;
      each = subst (λ (list : List ℕ). (k : ℕ) (x : Event) → k < number + 1 → slice_get events k ≡ Some x → IsSource events k x.access.port x.access.register (slice_index_or list k 0)) (sym c.push_reserved.ensures.items)
          (sources_push events c.loop-number.sources.items number source e h.count here h.each c.source_before.ensures);
      room = c.push_reserved.ensures.capacity ∙ h.room;
    }

pub returns : goal.returns
returns c =
    let events : List Event = c.args.events.now in
    let h = c.loop-number.invariant in
    let all : c.loop-number.number ≡ length events = omega (arith, c.loop-number-test.false, c.loop-number.auto.number-end) in
    record {
      count = omega (arith, h.count, all);
      each = λ number e is. h.each number e (omega (arith, all, slice_get_within events number e is)) is;
    }
