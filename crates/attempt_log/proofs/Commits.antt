-- What a verdict says of the rule, run whole, on the registers as they are.
use Rattle.std.proofs.Common.{◌≡◌, ◌≢◌, ◌⊎◌, ℕ, Bool, true, false, List, [], ◌∷◌, ◌++◌, length, Option, Some, None, refl, sym, ap, ap₂, ◌∙◌, subst, inl, inr, append-nil, append_assoc, eq-eqb}
use Rattle.std.specs.Prelude.{◌&&◌, ◌||◌, not, slice_get, slice_index_or, if◌then◌else◌}
use Rattle.std.proofs.lemmas.Bool.{both_ways}
use Rattle.kw_bits.specs.BitVector.{BitVector}
use Rattle.typed_core.specs.Alone.{alone_ports, is_refused, outcome_of, seen, write}
use Rattle.typed_core.specs.Evaluation.{bind, evaluate, Ending, Environment, Evaluation, Progress, Stop, Value, unit}
use Rattle.typed_core.specs.Fits.{Continues, EventsFit}
use Rattle.typed_core.specs.Laws.{read_at, write_at}
use Rattle.typed_core.specs.Widths.{register_widths}
use Rattle.typed_core.specs.declared.access.Access.{Access}
use Rattle.typed_core.specs.declared.access.Event.{Event}
use Rattle.typed_core.specs.declared.action.Action.{Action}
use Rattle.typed_core.specs.declared.design.Parts.{Parts}
use Rattle.typed_core.specs.declared.design.Rule.{Rule}
use Rattle.typed_core.specs.declared.outcome.Alone.{Alone}
use Rattle.typed_core.specs.declared.outcome.Outcome.{Outcome}
use Rattle.typed_core.specs.declared.outcome.Outcome.TheVariants as ends
use Rattle.typed_core.specs.declared.outcome.Stopped.{Stopped}
use Rattle.typed_core.specs.declared.outcome.Stopped.TheVariants.{Abort, Refused}
use Rattle.typed_core.proofs.Readings.{Continues-bind, Continues-self, Continues-trans, PortsAppend-alone, Relates, evaluate_related}
use Rattle.one_rule.specs.Cycle.{alone_if, clash_with, environment, fires, is_done, system_of}
use Rattle.one_rule.proofs.Fitting.{run_fits}
use Rattle.attempt_log.specs.Laws.{AloneIsTrace, CommitsFire, NeverStale, SkipsDoNotFire, StaleReadsDiffer, TracesFit}
use Rattle.attempt_log.specs.Trace.{IsTrace, listed, retrace, trace_ports}
use Rattle.one_rule.specs.declared.cycle.Fired.{Fired}
use Rattle.attempt_log.specs.Verdict.{answer_now, at_end, is_same, staleness, verdict_from}
use Rattle.attempt_log.specs.declared.cause.Cause.{Cause}
use Rattle.attempt_log.specs.declared.cause.StaleRead.{StaleRead}
use Rattle.attempt_log.specs.declared.cause.Verdict.TheVariants.{Commit, Skip, Stale}
use Rattle.attempt_log.proofs.Along.{AgreeAlong, same_along}
use Rattle.attempt_log.proofs.Traces.{alone_is_trace, retrace_fits}
use Rattle.attempt_log.proofs.Verdicts.{AreFree, DecidedAt, Has, ReadsAgree, clash_is_behind, decided, free_is_clear, not_commit, skip_is_clash, stale_is_stale}

-- ---- reads that agree

module _ (regs : List BitVector) (fired : List Fired) where
  -- at each place
  agrees_at : (before events : List Event) (e : Event) (more : List Event) → ReadsAgree regs fired before (events ++ e ∷ more) → e.access.write ≡ false → e.value ≡ answer_now regs (before ++ events) e.access
  agrees_at before [] e more agree read = agree.0 read ∙ ap (λ (b : List Event). answer_now regs b e.access) (sym (append-nil before))
  agrees_at before (x ∷ events) e more agree read =
      agrees_at (before ++ x ∷ []) events e more agree.1 read ∙ ap (λ (b : List Event). answer_now regs b e.access) (append_assoc before (x ∷ []) events)

  -- the same for an event behind which a list goes on that agrees
  agrees_next : (list events : List Event) (e : Event) → ReadsAgree regs fired [] list → Continues (events ++ e ∷ []) list → e.access.write ≡ false → e.value ≡ answer_now regs events e.access
  agrees_next list events e agree (more, is) read =
      agrees_at [] events e more (subst (ReadsAgree regs fired []) (is ∙ append_assoc events (e ∷ []) more) agree) read

  -- one more
  agrees_push : (before events : List Event) (e : Event) → ReadsAgree regs fired before events → (e.access.write ≡ false → e.value ≡ answer_now regs (before ++ events) e.access) → ReadsAgree regs fired before (events ++ e ∷ [])
  agrees_push before [] e agree last = (λ read. last read ∙ ap (λ (b : List Event). answer_now regs b e.access) (append-nil before), tt)
  agrees_push before (x ∷ events) e agree last =
      (agree.0, agrees_push (before ++ x ∷ []) events e agree.1 (λ read. last read ∙ ap (λ (b : List Event). answer_now regs b e.access) (sym (append_assoc before (x ∷ []) events))))

  -- ---- an attempt whose reads all agree

  trace_along : (widths : List ℕ) (list : List Event) → ReadsAgree regs fired [] list → AgreeAlong list (trace_ports widths list) (alone_ports regs)
  trace_along widths list agree = record {
    appends_read = λ port register events. (_, refl);
    appends_write = (PortsAppend-alone regs).write;
    read = λ port register events within.
        let value = listed widths port register (slice_get list (length events)) in
        let e : Event = record { access = read_at port register; value = value } in
        let same : value ≡ seen port register events (slice_index_or regs register unit) = agrees_next list events e agree within refl in
        ap (λ (v : BitVector). let p : Progress BitVector Stopped = record { events = events ++ record { access = read_at port register; value = v } ∷ []; ending = Value v } in p) same;
    write = λ port register value events within. refl;
    abort = refl;
  }

  -- is what its rule gives alone
  alone_again : (design : Parts) (rule : ℕ) (inputs : List BitVector) (run : Alone) → IsTrace design rule inputs run → ReadsAgree regs fired [] run.events → (system_of design).alone rule inputs regs ≡ run
  alone_again design rule inputs run trace agree = of_rule (slice_get design.rules rule) trace.gives
    where
      env : Environment
      env = environment design inputs

      widths : List ℕ
      widths = register_widths design

      of_rule : (found : Option Rule) → retrace env widths run.events found ≡ run → alone_if env regs found ≡ run
      of_rule None gives = gives
      of_rule (Some found) gives =
          let all : Continues (evaluate env (trace_ports widths run.events) found.body [] []).events run.events = ([], sym (append-nil _ ∙ ap (λ (r : Alone). r.events) gives)) in
          let same = same_along env run.events (trace_ports widths run.events) (alone_ports regs) (trace_along widths run.events agree) found.body all in
          ap (λ (p : Progress BitVector Stopped). let r : Alone = record { events = p.events; outcome = outcome_of p.ending } in r) (sym same) ∙ gives

-- ---- an attempt with a clash behind reads that agree

Has-more : (access : Access) (xs ys : List Event) → Has access xs → Has access (xs ++ ys)
Has-more access [] ys h = absurd h
Has-more access (x ∷ xs) ys (inl e) = inl e
Has-more access (x ∷ xs) ys (inr h) = inr (Has-more access xs ys h)

Has-continues : (access : Access) (xs ys : List Event) → Continues xs ys → Has access xs → Has access ys
Has-continues access xs ys (more, is) h = subst (Has access) (sym is) (Has-more access xs more h)

-- an event of the same access in the place of the last
Has-swap : (access : Access) (xs : List Event) (e f : Event) → e.access ≡ f.access → Has access (xs ++ e ∷ []) → Has access (xs ++ f ∷ [])
Has-swap access [] e f same (inl h) = inl (sym same ∙ h)
Has-swap access [] e f same (inr h) = absurd h
Has-swap access (x ∷ xs) e f same (inl h) = inl h
Has-swap access (x ∷ xs) e f same (inr h) = inr (Has-swap access xs e f same h)

Has-here : (earlier : List Event) (e : Event) (later : List Event) → Has e.access (earlier ++ e ∷ later)
Has-here [] e later = inl refl
Has-here (x ∷ earlier) e later = inr (Has-here earlier e later)

-- what a list begins with ends before one of its events, or has it
begins : (earlier : List Event) (e : Event) (later xs more : List Event) → earlier ++ e ∷ later ≡ xs ++ more → Continues xs earlier ⊎ Has e.access xs
begins earlier e later [] more is = inl (earlier, refl)
begins [] e later (x ∷ xs) more is =
    let same : e ≡ x = cc in
    inr (inl (ap (λ (f : Event). f.access) (sym same)))
begins (y ∷ earlier) e later (x ∷ xs) more is =
    let same : y ≡ x = cc in
    let rest : earlier ++ e ∷ later ≡ xs ++ more = cc in
    chosen same (begins earlier e later xs more rest)
  where
    chosen : y ≡ x → Continues xs earlier ⊎ Has e.access xs → Continues (x ∷ xs) (y ∷ earlier) ⊎ Has e.access (x ∷ xs)
    chosen same (inl (tail, ends)) = inl (tail, ap₂ (λ (h : Event) (t : List Event). h ∷ t) same ends)
    chosen same (inr h) = inr (inr h)

module _ (regs : List BitVector) (fired : List Fired) (widths : List ℕ) (list earlier : List Event) (event : Event) (later : List Event) (split : list ≡ earlier ++ event ∷ later) (agree : ReadsAgree regs fired [] earlier) (env : Environment) where
  abbrev Meets : Progress BitVector Stopped → Type 0
  Meets q = Has event.access q.events

  -- within the list, both come to the same before the event, or the rule alone makes its access too
  abbrev Follows : List Event → Progress BitVector Stopped → Progress BitVector Stopped → Type 0
  Follows before p q = Continues before p.events × Continues before q.events × (Continues p.events list → ((p ≡ q) × Continues p.events earlier) ⊎ Meets q)

  within : (events : List Event) → Continues events list → Continues events earlier ⊎ Has event.access events
  within events (more, is) = begins earlier event later events more (sym split ∙ is)

  -- parts that are the same
  follows_same : (before : List Event) (p : Progress BitVector Stopped) → Continues before p.events → Follows before p p
  follows_same before p c = (c, c, λ inside. chosen (within p.events inside))
    where
      chosen : Continues p.events earlier ⊎ Has event.access p.events → ((p ≡ p) × Continues p.events earlier) ⊎ Meets p
      chosen (inl h) = inl (refl, h)
      chosen (inr h) = inr h

  follows_bind : (events : List Event) (p q : Progress BitVector Stopped) (f g : BitVector → Evaluation BitVector Stopped) → Follows events p q → ((value : BitVector) (es : List Event) → Follows es (f value es) (g value es)) → Follows events (bind p.events p.ending f) (bind q.events q.ending g)
  follows_bind events p q f g h k =
      (Continues-bind events p.events p.ending f h.0 (λ value es. (k value es).0), Continues-bind events q.events q.ending g h.1 (λ value es. (k value es).1), λ inside. met p.ending refl inside)
    where
      stays : Meets q → Meets (bind q.events q.ending g)
      stays m = Has-continues event.access q.events (bind q.events q.ending g).events (Continues-bind q.events q.events q.ending g (Continues-self q.events) (λ value es. (k value es).1)) m

      met : (ending : Ending BitVector Stopped) → p.ending ≡ ending → Continues (bind p.events p.ending f).events list → ((bind p.events p.ending f ≡ bind q.events q.ending g) × Continues (bind p.events p.ending f).events earlier) ⊎ Meets (bind q.events q.ending g)
      met ending is inside = at (h.2 (Continues-trans p.events (bind p.events p.ending f).events list (Continues-bind p.events p.events p.ending f (Continues-self p.events) (λ value es. (k value es).0)) inside))
        where
          next : (ending : Ending BitVector Stopped) → Continues p.events earlier → Continues (bind p.events ending f).events list → ((bind p.events ending f ≡ bind p.events ending g) × Continues (bind p.events ending f).events earlier) ⊎ Meets (bind p.events ending g)
          next (Value value) c inside' = (k value p.events).2 inside'
          next (Stop cause) c inside' = inl (refl, c)

          at : ((p ≡ q) × Continues p.events earlier) ⊎ Meets q → ((bind p.events p.ending f ≡ bind q.events q.ending g) × Continues (bind p.events p.ending f).events earlier) ⊎ Meets (bind q.events q.ending g)
          at (inl (same, c)) =
              subst (λ (r : Progress BitVector Stopped). ((bind p.events p.ending f ≡ bind r.events r.ending g) × Continues (bind p.events p.ending f).events earlier) ⊎ Meets (bind r.events r.ending g)) same (next p.ending c inside)
          at (inr m) = inr (stays m)

  follows_read : (port register : ℕ) (events : List Event) → Follows events ((trace_ports widths list).read port register events) ((alone_ports regs).read port register events)
  follows_read port register events = ((listed_event ∷ [], refl), (seen_event ∷ [], refl), λ inside. chosen (within (events ++ listed_event ∷ []) inside))
    where
      value : BitVector
      value = listed widths port register (slice_get list (length events))

      now : BitVector
      now = seen port register events (slice_index_or regs register unit)

      listed_event : Event
      listed_event = record { access = read_at port register; value = value }

      seen_event : Event
      seen_event = record { access = read_at port register; value = now }

      noted : BitVector → Progress BitVector Stopped
      noted v = record { events = events ++ record { access = read_at port register; value = v } ∷ []; ending = Value v }

      chosen : Continues (events ++ listed_event ∷ []) earlier ⊎ Has event.access (events ++ listed_event ∷ [])
          → ((noted value ≡ noted now) × Continues (events ++ listed_event ∷ []) earlier) ⊎ Has event.access (events ++ seen_event ∷ [])
      chosen (inl c) = inl (ap noted (agrees_next regs fired earlier events listed_event agree c refl), c)
      chosen (inr h) = inr (Has-swap event.access events listed_event seen_event refl h)

  follows : Relates (trace_ports widths list) (alone_ports regs) Follows
  follows = record {
    value = λ es value. follows_same es (record { events = es; ending = Value value }) (Continues-self es);
    bind = follows_bind;
    read = follows_read;
    write = λ port register value es. follows_same es (write port register value es) ((PortsAppend-alone regs).write port register value es);
    abort = λ es. follows_same es (record { events = es; ending = Stop Abort }) (Continues-self es);
  }

  -- the rule alone makes the event's access
  alone_meets : (body : Action) → (evaluate env (trace_ports widths list) body [] []).events ≡ list → Has event.access (evaluate env (alone_ports regs) body [] []).events
  alone_meets body is = chosen ((evaluate_related env (trace_ports widths list) (alone_ports regs) Follows follows body [] []).2 ([], sym (append-nil _ ∙ is)))
    where
      p : Progress BitVector Stopped
      p = evaluate env (trace_ports widths list) body [] []

      q : Progress BitVector Stopped
      q = evaluate env (alone_ports regs) body [] []

      chosen : ((evaluate env (trace_ports widths list) body [] [] ≡ evaluate env (alone_ports regs) body [] []) × Continues (evaluate env (trace_ports widths list) body [] []).events earlier) ⊎ Meets (evaluate env (alone_ports regs) body [] []) → Has event.access (evaluate env (alone_ports regs) body [] []).events
      chosen (inl (same, c)) =
          subst (Has event.access) (sym (is ∙ split) ∙ ap (λ (r : Progress BitVector Stopped). r.events) same) (Has-here earlier event later)
      chosen (inr h) = h

-- ---- the laws

pub alone_gives_traces : AloneIsTrace
alone_gives_traces design rule inputs regs valid i r = alone_is_trace design rule inputs regs (run_fits design valid inputs regs i r rule)

pub traces_fit : TracesFit
traces_fit design rule inputs run valid i trace =
    subst (λ (x : Alone). EventsFit (register_widths design) x.events) trace.gives (retrace_fits design valid inputs i run.events trace.reads rule)

done_from : (outcome : Outcome) → at_end outcome ≡ Commit → is_done outcome ≡ true
done_from ends.Done h = refl
done_from ends.Abort h = absurd cc
done_from (ends.OwnClash access) h = absurd cc

pub commits_fire : CommitsFire
commits_fire design rule inputs regs fired run trace h = chosen (decided regs fired [] run.events run.outcome)
  where
    chosen : (ReadsAgree regs fired [] run.events × AreFree regs fired run.events × (verdict_from regs fired [] run.events run.outcome ≡ at_end run.outcome)) ⊎ DecidedAt regs fired [] run.events (verdict_from regs fired [] run.events run.outcome)
        → ((system_of design).alone rule inputs regs ≡ run) × (fires fired run ≡ true)
    chosen (inl (agree, free, ends)) = (
      alone_again regs fired design rule inputs run trace agree,
      ap₂ (λ (a b : Bool). a && not b) (done_from run.outcome (sym ends ∙ h)) (free_is_clear fired run.events free),
    )
    chosen (inr at) = absurd (not_commit regs fired at.earlier at.event (at.decided ∙ ap Some h))

not_done : (outcome : Outcome) (cause : Cause) → at_end outcome ≡ Skip cause → is_done outcome ≡ false
not_done ends.Done cause h = absurd cc
not_done ends.Abort cause h = refl
not_done (ends.OwnClash access) cause h = refl

pub skips_do_not_fire : SkipsDoNotFire
skips_do_not_fire design rule inputs regs fired run cause trace h = chosen (decided regs fired [] run.events run.outcome)
  where
    env : Environment
    env = environment design inputs

    widths : List ℕ
    widths = register_widths design

    and_no : (a : Bool) → (a && false) ≡ false
    and_no true = refl
    and_no false = refl

    chosen : (ReadsAgree regs fired [] run.events × AreFree regs fired run.events × (verdict_from regs fired [] run.events run.outcome ≡ at_end run.outcome)) ⊎ DecidedAt regs fired [] run.events (verdict_from regs fired [] run.events run.outcome)
        → fires fired ((system_of design).alone rule inputs regs) ≡ false
    chosen (inl (agree, free, ends)) =
        ap (λ (r : Alone). fires fired r) (alone_again regs fired design rule inputs run trace agree)
        ∙ ap (λ (a : Bool). a && not (clash_with run.events fired)) (not_done run.outcome cause (sym ends ∙ h))
    chosen (inr at) = of_rule (slice_get design.rules rule) trace.gives
      where
        clashing : (alone : Alone) → Has at.event.access alone.events → fires fired alone ≡ false
        clashing alone has =
            let behind = clash_is_behind at.event.access fired alone.events has (skip_is_clash regs fired at.earlier at.event cause (at.decided ∙ ap Some h)) in
            ap (λ (b : Bool). is_done alone.outcome && not b) behind ∙ and_no (is_done alone.outcome)

        of_rule : (found : Option Rule) → retrace env widths run.events found ≡ run → fires fired (alone_if env regs found) ≡ false
        of_rule None gives =
            clashing (alone_if env regs None) (subst (Has at.event.access) (sym at.split ∙ sym (ap (λ (r : Alone). r.events) gives)) (Has-here at.earlier at.event at.later))
        of_rule (Some found) gives =
            clashing (alone_if env regs (Some found)) (alone_meets regs fired widths run.events at.earlier at.event at.later at.split at.agree env found.body (ap (λ (r : Alone). r.events) gives))

-- ---- reads of a rule alone

module _ (regs : List BitVector) (fired : List Fired) (env : Environment) where
  abbrev Agrees : List Event → Progress BitVector Stopped → Progress BitVector Stopped → Type 0
  Agrees before p q = ReadsAgree regs fired [] before → ReadsAgree regs fired [] p.events

  agrees_bind : (events : List Event) (p q : Progress BitVector Stopped) (f g : BitVector → Evaluation BitVector Stopped) → Agrees events p q → ((value : BitVector) (es : List Event) → Agrees es (f value es) (g value es)) → Agrees events (bind p.events p.ending f) (bind q.events q.ending g)
  agrees_bind events p q f g h k before = at p.ending
    where
      at : (ending : Ending BitVector Stopped) → ReadsAgree regs fired [] (bind p.events ending f).events
      at (Value value) = k value p.events (h before)
      at (Stop cause) = h before

  agrees_write : (port register : ℕ) (value : BitVector) (events : List Event) → ReadsAgree regs fired [] events → ReadsAgree regs fired [] (write port register value events).events
  agrees_write port register value events agree = chosen (is_refused events (write_at port register))
    where
      chosen : (b : Bool)
          → let p : Progress BitVector Stopped = if b then record { events = events; ending = Stop (Refused (write_at port register)) } else record { events = events ++ record { access = write_at port register; value = value } ∷ []; ending = Value unit } in
          ReadsAgree regs fired [] p.events
      chosen true = agree
      chosen false = agrees_push regs fired [] events (record { access = write_at port register; value = value }) agree (λ read. absurd (both_ways true read refl))

  agrees : Relates (alone_ports regs) (alone_ports regs) Agrees
  agrees = record {
    value = λ es value agree. agree;
    bind = agrees_bind;
    read = λ port register es agree. agrees_push regs fired [] es (record { access = read_at port register; value = seen port register es (slice_index_or regs register unit) }) agree (λ read. refl);
    write = λ port register value es agree. agrees_write port register value es agree;
    abort = λ es agree. agree;
  }

  alone_agrees : (found : Option Rule) → ReadsAgree regs fired [] (alone_if env regs found).events
  alone_agrees None = tt
  alone_agrees (Some found) = evaluate_related env (alone_ports regs) (alone_ports regs) Agrees agrees found.body [] [] tt

not_at_end : (outcome : Outcome) (read : StaleRead) → at_end outcome ≡ Stale read → ⊥
not_at_end ends.Done read h = absurd cc
not_at_end ends.Abort read h = absurd cc
not_at_end (ends.OwnClash access) read h = absurd cc

-- a read that has its answer now isn't stale
differs : (now : BitVector) (e : Event) (read : StaleRead) → staleness now e ≡ Some read → (e.access.write ≡ false) × (read.held ≡ e.value) × (read.now ≡ now) × (is_same e.value now ≡ false)
differs now e read h = at e.access.write (is_same e.value now) refl refl h
  where
    at : (w s : Bool) → e.access.write ≡ w → is_same e.value now ≡ s → (if w || s then None else Some (record { register = e.access.register; port = e.access.port; held = e.value; now = now })) ≡ Some read
        → (e.access.write ≡ false) × (read.held ≡ e.value) × (read.now ≡ now) × (is_same e.value now ≡ false)
    at true s is same k = absurd cc
    at false true is same k = absurd cc
    at false false is same k =
        let made : StaleRead = record { register = e.access.register; port = e.access.port; held = e.value; now = now } in
        let is_read : made ≡ read = cc in
        (is, ap (λ (r : StaleRead). r.held) (sym is_read), ap (λ (r : StaleRead). r.now) (sym is_read), same)

same_self : (a b : BitVector) → a ≡ b → is_same a b ≡ true
same_self a b e = subst (λ (x : BitVector). is_same a x ≡ true) e (self a)
  where
    self : (a : BitVector) → is_same a a ≡ true
    self a = ap₂ (λ p q. p && q) (eq-eqb a.width a.width refl) (eq-eqb a.number a.number refl)

pub never_stale : NeverStale
never_stale design rule inputs regs fired read h = chosen (decided regs fired [] run.events run.outcome)
  where
    run : Alone
    run = (system_of design).alone rule inputs regs

    agree : ReadsAgree regs fired [] ((system_of design).alone rule inputs regs).events
    agree = alone_agrees regs fired (environment design inputs) (slice_get design.rules rule)

    chosen : (ReadsAgree regs fired [] run.events × AreFree regs fired run.events × (verdict_from regs fired [] run.events run.outcome ≡ at_end run.outcome)) ⊎ DecidedAt regs fired [] run.events (verdict_from regs fired [] run.events run.outcome) → ⊥
    chosen (inl (all, free, ends)) = not_at_end run.outcome read (sym ends ∙ h)
    chosen (inr at) =
        let parts = differs (answer_now regs at.earlier at.event.access) at.event read (stale_is_stale regs fired at.earlier at.event read (at.decided ∙ ap Some h)) in
        let value = agrees_at regs fired [] at.earlier at.event at.later (subst (ReadsAgree regs fired []) at.split agree) parts.0 in
        both_ways (is_same at.event.value (answer_now regs at.earlier at.event.access)) parts.3 (same_self at.event.value (answer_now regs at.earlier at.event.access) value)

pub stale_reads_differ : StaleReadsDiffer
stale_reads_differ regs fired run read h = chosen (decided regs fired [] run.events run.outcome)
  where
    chosen : (ReadsAgree regs fired [] run.events × AreFree regs fired run.events × (verdict_from regs fired [] run.events run.outcome ≡ at_end run.outcome)) ⊎ DecidedAt regs fired [] run.events (verdict_from regs fired [] run.events run.outcome) → read.held ≢ read.now
    chosen (inl (all, free, ends)) = absurd (not_at_end run.outcome read (sym ends ∙ h))
    chosen (inr at) = λ same.
        let parts = differs (answer_now regs at.earlier at.event.access) at.event read (stale_is_stale regs fired at.earlier at.event read (at.decided ∙ ap Some h)) in
        both_ways (is_same at.event.value (answer_now regs at.earlier at.event.access)) parts.3 (same_self at.event.value (answer_now regs at.earlier at.event.access) (sym parts.1 ∙ same ∙ parts.2))
