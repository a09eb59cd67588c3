-- The cycle of port runs is the cycle of whole rules.
use Rattle.std.proofs.Common.{◌≡◌, ◌≢◌, ℕ, ◌<◌, ◌⊎◌, inl, inr, Bool, true, false, List, [], ◌∷◌, ◌++◌, length, Option, Some, None, refl, sym, ap, ap₂, ◌∙◌, subst, eq-eqb, length-set, arith}
use Rattle.std.specs.Prelude.{◌||◌, ◌&&◌, ◌==◌, nat_le, nat_lt, not, slice_get, slice_index_or, slice_set, if◌then◌else◌}
use Rattle.std.proofs.lemmas.Bool.{cases_eq, ne_eqb}
use Rattle.std.proofs.lemmas.Option.{slice_get_within}
use Rattle.std.proofs.lemmas.List.{get_or-set_same, get_or-set_other, map_push}
use Rattle.kw_bits.specs.BitVector.{BitVector}
use Rattle.typed_core.specs.Alone.{after, after_one, alone_ports, is_refused, outcome_of, seen}
use Rattle.typed_core.specs.Clash.{clashes}
use Rattle.typed_core.specs.Evaluation.{bind, evaluate, unit, Ending, Environment, Evaluation, Progress, Stop, Value}
use Rattle.typed_core.specs.Fits.{Continues, EventsFit}
use Rattle.typed_core.specs.Laws.{read_at, write_at}
use Rattle.typed_core.specs.Valid.{IsValid}
use Rattle.typed_core.specs.Widths.{HaveWidths, input_widths, register_widths}
use Rattle.typed_core.specs.declared.access.Access.{Access}
use Rattle.typed_core.specs.declared.access.Event.{Event}
use Rattle.typed_core.specs.declared.action.Action.{Action}
use Rattle.typed_core.specs.declared.design.Parts.{Parts}
use Rattle.typed_core.specs.declared.design.Rule.{Rule}
use Rattle.typed_core.specs.declared.outcome.Alone.{Alone}
use Rattle.typed_core.specs.declared.outcome.Stopped.{Stopped}
use Rattle.typed_core.specs.declared.outcome.Stopped.TheVariants.{Abort, Refused}
use Rattle.typed_core.proofs.Events.{EventsFit-append, after_fits}
use Rattle.typed_core.proofs.Readings.{Relates, evaluate_related, Continues-bind, Continues-self}
use Rattle.one_rule.specs.Cycle.{alone_if, begin, clash_with, environment, fire, fires, flags, is_done, join, numbers, system_of}
use Rattle.one_rule.specs.Laws.{PortCyclesAreCycles}
use Rattle.one_rule.specs.PortRun.{merge, port_fire, port_run_if, ports_behind, PortState}
use Rattle.one_rule.specs.declared.cycle.Fired.{Fired}
use Rattle.one_rule.specs.declared.cycle.State.{State}
use Rattle.one_rule.specs.declared.rows.Row.{Row}
use Rattle.one_rule.proofs.Clashes.{clash_with-none, clash_with-push, meets, meets-more, meets-push}
use Rattle.one_rule.proofs.Fitting.{run_fits}
use Rattle.one_rule.proofs.WalkLaws.{BothFire, walks_together}

-- ---- what a read sees of a scheduler log that doesn't refuse it

if_true : {X : Type 0} (b : Bool) (x y : X) → b ≡ true → (if b then x else y) ≡ x
if_true true x y h = refl
if_true false x y h = absurd cc

if_false : {X : Type 0} (b : Bool) (x y : X) → b ≡ false → (if b then x else y) ≡ y
if_false true x y h = absurd cc
if_false false x y h = refl

neither : (a b : Bool) → (a || b) ≡ false → (a ≡ false) × (b ≡ false)
neither true b h = absurd cc
neither false b h = (refl, h)

-- a write that doesn't refuse the read is one below its port
written : (port register : ℕ) (regs : List BitVector) (e : Event) → e.access.register < length regs → (write : Bool) → clashes (read_at port register) (record { write = write; port = e.access.port; register = e.access.register }) ≡ false
    → (if (write && (e.access.register == register)) && nat_lt e.access.port port then e.value else slice_index_or regs register unit) ≡ slice_index_or (if write then slice_set regs e.access.register e.value else regs) register unit
written port register regs e inside false free = refl
written port register regs e inside true free = by_register (cases_eq e.access.register register)
  where
    at : ℕ
    at = e.access.register

    below : Bool
    below = nat_lt e.access.port port

    by_register : ((at ≡ register) ⊎ (at ≢ register)) → (if (true && (at == register)) && below then e.value else slice_index_or regs register unit) ≡ slice_index_or (slice_set regs at e.value) register unit
    by_register (inl same) =
        let mine : (at == register) ≡ true = eq-eqb at register same in
        let yours : (register == at) ≡ true = eq-eqb register at (sym same) in
        let not_above : nat_le port e.access.port ≡ false = ap (λ b. b && nat_le port e.access.port) (sym yours) ∙ free in
        let lower : below ≡ true = grind (arith, not_above) in
        let both : ((true && (at == register)) && below) ≡ true = ap₂ (λ a b. (true && a) && b) mine lower in
        if_true _ _ _ both ∙ sym (ap (λ n. slice_index_or (slice_set regs at e.value) n unit) (sym same) ∙ get_or-set_same regs at e.value unit inside)
    by_register (inr other) =
        let mine : (at == register) ≡ false = ne_eqb at register other in
        let no : ((true && (at == register)) && below) ≡ false = ap (λ a. (true && a) && below) mine in
        if_false _ _ _ no ∙ sym (get_or-set_other regs at register e.value unit (λ same. other (sym same)))

-- it sees the value that the log leaves in the register
seen-after : (widths : List ℕ) (port register : ℕ) (log : List Event) (regs : List BitVector) → EventsFit widths log → length regs ≡ length widths → is_refused log (read_at port register) ≡ false → seen port register log (slice_index_or regs register unit) ≡ slice_index_or (after log regs) register unit
seen-after widths port register [] regs fit size free = refl
seen-after widths port register (e ∷ log) regs fit size free =
    let parts = neither (clashes (read_at port register) e.access) (is_refused log (read_at port register)) free in
    let inside : e.access.register < length regs = omega (arith, size, slice_get_within widths e.access.register fit.0.value.0 fit.0.value.1) in
    ap (seen port register log) (written port register regs e inside e.access.write parts.0)
    ∙ seen-after widths port register log (after_one regs e) fit.1 (length-after_one e.access.write ∙ size) parts.1
  where
    length-after_one : (write : Bool) → length (if write then slice_set regs e.access.register e.value else regs) ≡ length regs
    length-after_one true = length-set regs e.access.register e.value
    length-after_one false = refl

-- ---- a rule behind a scheduler log, and the rule alone on what the log leaves

abbrev IsStopped : Ending BitVector Stopped → Type 0
IsStopped (Value value) = ⊥
IsStopped (Stop cause) = Unit {0}

module _ (widths : List ℕ) (log : List Event) (start : List BitVector) (fit : EventsFit widths log) (size : length start ≡ length widths) where
  -- Both come to the same and the log refuses no event; or the port run stops, and the rule alone stops too or has an
  -- event that the log refuses.
  abbrev Agree : Progress BitVector Stopped → Progress BitVector Stopped → Type 0
  Agree p q = ((p ≡ q) × (meets log q.events ≡ false)) ⊎ (IsStopped p.ending × (IsStopped q.ending ⊎ (meets log q.events ≡ true)))

  abbrev Related : List Event → Progress BitVector Stopped → Progress BitVector Stopped → Type 0
  Related before p q = Continues before q.events × (meets log before ≡ false → Agree p q)

  bound : (events : List Event) (p q : Progress BitVector Stopped) (f g : BitVector → Evaluation BitVector Stopped) → Related events p q → ((value : BitVector) (es : List Event) → Related es (f value es) (g value es)) → Related events (bind p.events p.ending f) (bind q.events q.ending g)
  bound events p q f g h k = (Continues-bind events q.events q.ending g h.0 (λ value es. (k value es).0), λ clear. both (h.1 clear))
    where
      at_once : (es : List Event) (ending : Ending BitVector Stopped) → meets log es ≡ false → Agree (bind es ending f) (bind es ending g)
      at_once es (Value value) clear = (k value es).1 clear
      at_once es (Stop cause) clear = inl (refl, clear)

      stays : (ending : Ending BitVector Stopped) → (IsStopped ending ⊎ (meets log q.events ≡ true)) → IsStopped (bind q.events ending g).ending ⊎ (meets log (bind q.events ending g).events ≡ true)
      stays (Value value) (inl h) = absurd h
      stays (Value value) (inr h) = inr (meets-more log q.events (g value q.events).events (k value q.events).0 h)
      stays (Stop cause) h = inl tt

      stopped : (ending : Ending BitVector Stopped) → IsStopped ending → (IsStopped q.ending ⊎ (meets log q.events ≡ true)) → Agree (bind p.events ending f) (bind q.events q.ending g)
      stopped (Value value) h why = absurd h
      stopped (Stop cause) h why = inr (tt, stays q.ending why)

      both : Agree p q → Agree (bind p.events p.ending f) (bind q.events q.ending g)
      both (inl (same, clear)) = subst (λ (r : Progress BitVector Stopped). Agree (bind r.events r.ending f) (bind q.events q.ending g)) (sym same) (at_once q.events q.ending clear)
      both (inr (h, why)) = stopped p.ending h why

  read_related : (port register : ℕ) (events : List Event) → Related events ((ports_behind log start).read port register events) ((alone_ports (after log start)).read port register events)
  read_related port register events = ((event, refl), λ clear. chosen clear (is_refused log access) refl)
    where
      access : Access
      access = read_at port register

      value : BitVector
      value = seen port register events (slice_index_or (after log start) register unit)

      noted : Event
      noted = record { access = access; value = value }

      event : List Event
      event = noted ∷ []

      here : BitVector
      here = seen port register events (seen port register log (slice_index_or start register unit))

      chosen : meets log events ≡ false → (b : Bool) → is_refused log access ≡ b
          → let p : Progress BitVector Stopped = if b then record { events = events; ending = Stop (Refused access) } else record { events = events ++ record { access = access; value = here } ∷ []; ending = Value here } in
          Agree p (record { events = events ++ event; ending = Value value })
      chosen clear true h = inr (tt, inr (meets-push log events noted true clear h))
      chosen clear false h =
          let same : here ≡ value = ap (seen port register events) (seen-after widths port register log start fit size h) in
          inl (ap (λ (v : BitVector). let p : Progress BitVector Stopped = record { events = events ++ record { access = access; value = v } ∷ []; ending = Value v } in p) same, meets-push log events noted false clear h)

  write_related : (port register : ℕ) (value : BitVector) (events : List Event) → Related events ((ports_behind log start).write port register value events) ((alone_ports (after log start)).write port register value events)
  write_related port register value events = (only_adds (is_refused events access), λ clear. chosen clear (is_refused log access) (is_refused events access) refl)
    where
      access : Access
      access = write_at port register

      noted : Event
      noted = record { access = access; value = value }

      stop : Progress BitVector Stopped
      stop = record { events = events; ending = Stop (Refused access) }

      note : Progress BitVector Stopped
      note = record { events = events ++ noted ∷ []; ending = Value unit }

      only_adds : (own : Bool) → Continues events (if own then stop else note).events
      only_adds true = Continues-self events
      only_adds false = (noted ∷ [], refl)

      chosen : meets log events ≡ false → (b own : Bool) → is_refused log access ≡ b → Agree (if b || own then stop else note) (if own then stop else note)
      chosen clear true true h = inr (tt, inl tt)
      chosen clear true false h = inr (tt, inr (meets-push log events noted true clear h))
      chosen clear false true h = inl (refl, clear)
      chosen clear false false h = inl (refl, meets-push log events noted false clear h)

  related : Relates (ports_behind log start) (alone_ports (after log start)) Related
  related = record {
    value = λ events value. (Continues-self events, λ clear. inl (refl, clear));
    bind = bound;
    read = read_related;
    write = write_related;
    abort = λ events. (Continues-self events, λ clear. inl (refl, clear));
  }

  -- a rule's body agrees with itself
  pub bodies_agree : (env : Environment) (body : Action) → Agree (evaluate env (ports_behind log start) body [] []) (evaluate env (alone_ports (after log start)) body [] [])
  bodies_agree env body = (evaluate_related env (ports_behind log start) (alone_ports (after log start)) Related related body [] []).1 refl

-- ---- the walk

after-append : (xs ys : List Event) (regs : List BitVector) → after (xs ++ ys) regs ≡ after ys (after xs regs)
after-append [] ys regs = refl
after-append (x ∷ xs) ys regs = after-append xs ys (after_one regs x)

-- The registers are those that the log leaves, the events that the log refuses are those that clash, and the same rules
-- have fired.
record Stand (widths : List ℕ) (start : List BitVector) (s : PortState) (t : State) : Type 0 where
  regs : t.regs ≡ after s.log start
  clashes : (events : List Event) → clash_with events t.past ≡ meets s.log events
  fired : s.fired ≡ numbers t.past
  fit : EventsFit widths s.log

module _ (widths : List ℕ) (start : List BitVector) (s : PortState) (t : State) (h : Stand widths start s t) (rule : ℕ) where
  -- a rule that fires joins the log and those that fired
  joined : (events : List Event) → EventsFit widths events → Stand widths start (record { log = s.log ++ events; fired = s.fired ++ rule ∷ [] }) (join t rule events)
  joined events fit =
      record {
        regs = ap (after events) h.regs ∙ sym (after-append s.log events start);
        clashes = λ es. clash_with-push s.log es t.past (record { rule = rule; events = events }) (h.clashes es);
        fired = ap (λ ns. ns ++ rule ∷ []) h.fired ∙ sym (map_push (λ (f : Fired). f.rule) t.past (record { rule = rule; events = events }));
        fit = EventsFit-append widths s.log events h.fit fit;
      }

  abbrev Fire : Option PortState → Alone → Type 0
  Fire o run = BothFire (Stand widths start) o (if fires t.past run then Some (join t rule run.events) else None)

  whole : (events : List Event) (ending : Ending BitVector Stopped) → EventsFit widths events → meets s.log events ≡ false → Fire (merge s rule events ending) (record { events = events; outcome = outcome_of ending })
  whole events (Value value) fit clear =
      subst (λ (b : Bool). BothFire (Stand widths start) (Some (record { log = s.log ++ events; fired = s.fired ++ rule ∷ [] })) (if not b then Some (join t rule events) else None)) (sym (h.clashes events ∙ clear)) (joined events fit)
  whole events (Stop Abort) fit clear = tt
  whole events (Stop (Refused access)) fit clear = tt

  blocked : (p : Progress BitVector Stopped) (events : List Event) (ending : Ending BitVector Stopped) → IsStopped p.ending → (IsStopped ending ⊎ (meets s.log events ≡ true)) → Fire (merge s rule p.events p.ending) (record { events = events; outcome = outcome_of ending })
  blocked p events ending stop why = stopped p.ending stop (idle ending why)
    where
      idle : (ending : Ending BitVector Stopped) → (IsStopped ending ⊎ (meets s.log events ≡ true)) → (is_done (outcome_of ending) && not (clash_with events t.past)) ≡ false
      idle (Value value) (inl h') = absurd h'
      idle (Value value) (inr m) = ap not (h.clashes events ∙ m)
      idle (Stop Abort) why = refl
      idle (Stop (Refused access)) why = refl

      stopped : (end : Ending BitVector Stopped) → IsStopped end → (is_done (outcome_of ending) && not (clash_with events t.past)) ≡ false → Fire (merge s rule p.events end) (record { events = events; outcome = outcome_of ending })
      stopped (Value value) h' e = absurd h'
      stopped (Stop cause) h' e = subst (λ (b : Bool). BothFire (Stand widths start) None (if b then Some (join t rule events) else None)) (sym e) tt

  -- where what a rule comes to agrees, it fires in both or in none
  agreed : (size : length start ≡ length widths) (p q : Progress BitVector Stopped) → EventsFit widths q.events → Agree widths s.log start h.fit size p q → Fire (merge s rule p.events p.ending) (record { events = q.events; outcome = outcome_of q.ending })
  agreed size p q fit (inl (same, clear)) =
      subst (λ (r : Progress BitVector Stopped). Fire (merge s rule r.events r.ending) (record { events = q.events; outcome = outcome_of q.ending })) (sym same) (whole q.events q.ending fit clear)
  agreed size p q fit (inr (stop, why)) = blocked p q.events q.ending stop why

module _ (design : Parts) (valid : IsValid design) (inputs start : List BitVector) (fits : HaveWidths (input_widths design) inputs) (starts : HaveWidths (register_widths design) start) where
  -- a rule fires behind the log where it fires whole
  fires_alike : (rule : ℕ) (s : PortState) (t : State) → Stand (register_widths design) start s t → BothFire (Stand (register_widths design) start) (port_fire design inputs start rule s) (fire (system_of design) inputs rule t)
  fires_alike rule s t h =
      subst (λ (regs : List BitVector). Fire (register_widths design) start s t h rule (port_fire design inputs start rule s) ((system_of design).alone rule inputs regs)) (sym h.regs)
      (of_rule (slice_get design.rules rule) (run_fits design valid inputs (after s.log start) fits (after_fits (register_widths design) s.log start h.fit starts) rule))
    where
      env : Environment
      env = environment design inputs

      of_rule : (found : Option Rule) → EventsFit (register_widths design) (alone_if env (after s.log start) found).events
          → let end = port_run_if env s.log start found in
          Fire (register_widths design) start s t h rule (merge s rule end.events end.ending) (alone_if env (after s.log start) found)
      of_rule None fit = whole (register_widths design) start s t h rule [] (Value unit) tt refl
      of_rule (Some found) fit =
          agreed (register_widths design) start s t h rule starts.count _ _ fit (bodies_agree (register_widths design) s.log start h.fit starts.count env found.body)

  begins : Stand (register_widths design) start (record { log = []; fired = [] }) (begin start)
  begins = record { regs = refl; clashes = clash_with-none; fired = refl; fit = tt }

pub port_cycles_are_cycles : PortCyclesAreCycles
port_cycles_are_cycles design inputs start valid fits starts =
    let end = (walks_together (Stand (register_widths design) start) (port_fire design inputs start) (fire (system_of design) inputs) (fires_alike design valid inputs start fits starts) design.nodes (record { log = []; fired = [] }) (begin start) (begins design valid inputs start fits starts)).states in
    ap₂ (λ (regs : List BitVector) (fired : List ℕ). let row : Row = record { regs = regs; fired = flags (length design.rules) fired } in row) (sym end.regs) end.fired
