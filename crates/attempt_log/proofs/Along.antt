-- Two readings of one action that agree on the events of a list give the same where one of them gives no other events.
use Rattle.std.proofs.Common.{◌≡◌, ℕ, List, [], refl, sym, ap, ◌∙◌}
use Rattle.kw_bits.specs.BitVector.{BitVector}
use Rattle.typed_core.specs.Evaluation.{bind, evaluate, Ending, Environment, Evaluation, Ports, Progress, Stop, Value}
use Rattle.typed_core.specs.Fits.{Continues}
use Rattle.typed_core.specs.declared.access.Event.{Event}
use Rattle.typed_core.specs.declared.action.Action.{Action}
use Rattle.typed_core.proofs.Readings.{Relates, evaluate_related, Continues-bind, Continues-self, Continues-trans}

-- what the first ports answer within the list, the second ones answer too
pub record AgreeAlong {S : Type 0} (list : List Event) (first second : Ports S) : Type 0 where
  pub appends_read : (port register : ℕ) (events : List Event) → Continues events (first.read port register events).events
  pub appends_write : (port register : ℕ) (value : BitVector) (events : List Event) → Continues events (first.write port register value events).events
  pub read : (port register : ℕ) (events : List Event) → Continues (first.read port register events).events list → first.read port register events ≡ second.read port register events
  pub write : (port register : ℕ) (value : BitVector) (events : List Event) → Continues (first.write port register value events).events list → first.write port register value events ≡ second.write port register value events
  pub abort : first.abort ≡ second.abort

module _ {S : Type 0} (env : Environment) (list : List Event) (first second : Ports S) (agree : AgreeAlong list first second) where
  abbrev Related : List Event → Progress BitVector S → Progress BitVector S → Type 0
  Related before p q = Continues before p.events × (Continues p.events list → p ≡ q)

  bound : (events : List Event) (p q : Progress BitVector S) (f g : BitVector → Evaluation BitVector S) → Related events p q → ((value : BitVector) (es : List Event) → Related es (f value es) (g value es)) → Related events (bind p.events p.ending f) (bind q.events q.ending g)
  bound events p q f g h k = (Continues-bind events p.events p.ending f h.0 (λ value es. (k value es).0), λ within. at (p.ending) refl within)
    where
      same : Continues p.events list → bind p.events p.ending g ≡ bind q.events q.ending g
      same within = ap (λ (r : Progress BitVector S). bind r.events r.ending g) (h.1 within)

      at : (ending : Ending BitVector S) → p.ending ≡ ending → Continues (bind p.events ending f).events list → bind p.events p.ending f ≡ bind q.events q.ending g
      at (Value value) is within =
          let next = k value p.events in
          ap (λ (e : Ending BitVector S). bind p.events e f) is ∙ next.1 within
          ∙ ap (λ (e : Ending BitVector S). bind p.events e g) (sym is)
          ∙ same (Continues-trans p.events (f value p.events).events list next.0 within)
      at (Stop cause) is within =
          ap (λ (e : Ending BitVector S). bind p.events e f) is ∙ ap (λ (e : Ending BitVector S). bind p.events e g) (sym is) ∙ same within

  related : Relates first second Related
  related = record {
    value = λ es value. (Continues-self es, λ _. refl);
    bind = bound;
    read = λ port register es. (agree.appends_read port register es, agree.read port register es);
    write = λ port register value es. (agree.appends_write port register value es, agree.write port register value es);
    abort = λ es. (Continues-self es, λ _. ap (λ (s : S). let p : Progress BitVector S = record { events = es; ending = Stop s } in p) agree.abort);
  }

  -- an action that gives no events but those of the list comes to the same under both
  pub same_along : (body : Action) → Continues (evaluate env first body [] []).events list → evaluate env first body [] [] ≡ evaluate env second body [] []
  same_along body within = (evaluate_related env first second Related related body [] []).1 within
