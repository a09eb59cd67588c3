use Rattle.std.proofs.Common.{◌≡◌, ◌<◌, ◌+◌, refl, ℕ, length, Some, List, sym, ap, ◌∙◌, subst, arith}
use Rattle.std.specs.Prelude.{slice_get, slice_index_or}
use Rattle.std.proofs.lemmas.List.{get_or_default, length-map, length_push}
use Rattle.std.proofs.lemmas.Option.{slice_get_read, slice_get_within}
use Rattle.typed_core.specs.Fits.{EventFits, EventsFit}
use Rattle.typed_core.specs.Widths.{register_widths}
use Rattle.typed_core.specs.declared.access.Event.{Event}
use Rattle.typed_core.specs.declared.design.RegDecl.{RegDecl}
use Rattle.attempt_log.specs.Sources.{AreSources, IsSource}
use Rattle.attempt_log.proofs.LookBack.{fit_at, source_next, sources_push}
use Rattle.attempt_log.proofs.sources.in_table.Goals as goal

pub loop-number-preserved : goal.loop-number-preserved
loop-number-preserved c =
    let events : List Event = c.as_slice-list.result.now in
    let number = c.loop-number.number in
    let e : Event = c.index-list-number.result in
    let h = c.loop-number.invariant in
    let design = c.args.design.now in
    let here : slice_get events number ≡ Some e = slice_get_read events (length events) number e refl c.loop-number-test.true c.index-list-number.is in
    let fits : EventFits (register_widths design) e = fit_at (register_widths design) events number e (subst (EventsFit (register_widths design)) (sym c.as_slice-list.ensures) c.requires) here in
    let register : e.access.register < length design.regs = omega (arith, slice_get_within (register_widths design) e.access.register _ fits.value.1, length-map design.regs (λ (decl : RegDecl). decl.width)) in
    let source = c.index.result.now in
    let place : c.place_of.result < length c.loop-number.latest.items = omega (arith, c.place_of.ensures, h.places, fits.port, register) in
    let found = c.index.ensures ∙ get_or_default c.loop-number.latest.items c.place_of.result source 0 place ∙ ap (λ (n : ℕ). slice_index_or c.loop-number.latest.items n 0) c.place_of.ensures in
    let last = subst (IsSource events number e.access.port e.access.register) (sym found) (h.latest e.access.port e.access.register fits.port register) in
    record {
      latest = λ port register is inside. source_next events number port register e _ _ here (h.latest port register is inside) (c.note.ensures.each port register is);
      places = c.note.ensures.length ∙ h.places;
      count = ap length c.push_reserved.ensures.items ∙ length_push c.loop-number.sources.items source ∙ ap (λ (n : ℕ). n + 1) h.count;
      each = subst (λ (list : List ℕ). (k : ℕ) (x : Event) → k < number + 1 → slice_get events k ≡ Some x → IsSource events k x.access.port x.access.register (slice_index_or list k 0)) (sym c.push_reserved.ensures.items)
          (sources_push events c.loop-number.sources.items number source e h.count here h.each last);
      room = c.push_reserved.ensures.capacity ∙ h.room;
    }

pub returns : goal.returns
returns c =
    let events : List Event = c.as_slice-list.result.now in
    let h = c.loop-number.invariant in
    let all : c.loop-number.number ≡ length events = omega (arith, c.loop-number-test.false, c.loop-number.auto.number-end) in
    subst (λ (list : List Event). AreSources list c.loop-number.sources.items) c.as_slice-list.ensures
    (record {
      count = omega (arith, h.count, all);
      each = λ number e is. h.each number e (omega (arith, all, slice_get_within events number e is)) is;
    })
