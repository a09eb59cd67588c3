use Rattle.std.proofs.Common.{◌≡◌, ◌+◌, ◌∷◌, ◌++◌, [], take, subst, sym, ap, ◌∙◌, arith, All}
use Rattle.std.proofs.lemmas.List.{take_all, take_more}
use Rattle.std.proofs.lemmas.List.Elements.{All-push}
use Rattle.typed_core.specs.declared.access.Event.{Event}
use Rattle.lab_core.specs.inner.Tops.{IsCovered}
use Rattle.std.specs.Prelude.{slice_index_or}
use Rattle.lab_core.proofs.tried.raise_all.Goals as goal

pub loop-event-preserved : goal.loop-event-preserved
loop-event-preserved c =
    let l = c.loop-event in
    let events = c.args.events.now in
    let e = c.event-item.result in
    let next : take (l.event-index + 1) events ≡ take l.event-index events ++ e ∷ [] =
    take_more events l.event-index e (omega arith) ∙ ap (λ x. take l.event-index events ++ x ∷ []) (sym c.event-item.is) in
    record {
      covers = subst (All (λ (x : Event). IsCovered c.raise.new.tops.items x.access)) (sym next) (All-push (λ (x : Event). IsCovered c.raise.new.tops.items x.access) (take l.event-index events) e (λ k d h. c.raise.ensures.kept (slice_index_or (take l.event-index events) k d).access (l.invariant.covers k d h)) c.raise.ensures.covers);
      kept = λ a h. c.raise.ensures.kept a (l.invariant.kept a h);
    }

pub returns-clause-covers : goal.returns-clause-covers
returns-clause-covers c =
    let l = c.loop-event in
    let all : take l.event-index c.args.events.now ≡ c.args.events.now = take_all l.event-index c.args.events.now c.loop-event-test.false in
    subst (All (λ (x : Event). IsCovered l.tops.items x.access)) all l.invariant.covers
