-- What decides a verdict, and what it says of clashes with the rules that were committed.
use Rattle.std.proofs.Common.{◌≡◌, ◌⊎◌, ℕ, Bool, true, false, List, [], ◌∷◌, ◌++◌, Option, Some, None, is_some, refl, sym, ap, ap₂, ◌∙◌, inl, inr, eqb-true, append-nil, append_assoc}
use Rattle.std.specs.Prelude.{◌==◌, ◌||◌, unwrap_or, if◌then◌else◌}
use Rattle.std.specs.List.{AllByRecursion, list_any}
use Rattle.std.proofs.lemmas.Bool.{and_parts, both_ways, or_cases, or_left, or_right}
use Rattle.kw_bits.specs.BitVector.{BitVector}
use Rattle.typed_core.specs.Alone.{is_refused}
use Rattle.typed_core.specs.Clash.{clashes}
use Rattle.typed_core.specs.declared.access.Access.{Access}
use Rattle.typed_core.specs.declared.access.Event.{Event}
use Rattle.typed_core.specs.declared.outcome.Outcome.{Outcome}
use Rattle.one_rule.specs.Cycle.{clash_with, clash_with_events}
use Rattle.one_rule.proofs.Clashes.{clash_with-push, meets}
use Rattle.one_rule.specs.declared.cycle.Fired.{Fired}
use Rattle.attempt_log.specs.Verdict.{answer_now, at_end, clash, clash_or, decision, first_clash, named_first, is_same, staleness, verdict_from}
use Rattle.attempt_log.specs.declared.cause.Cause.{Cause}
use Rattle.attempt_log.specs.declared.cause.StaleRead.{StaleRead}
use Rattle.attempt_log.specs.declared.cause.Verdict.{Verdict}
use Rattle.attempt_log.specs.declared.cause.Verdict.TheVariants.{Commit, Skip, Stale}

-- ---- what decides

module _ (regs : List BitVector) (fired : List Fired) where
  -- every read has its answer now, behind these events of the same rule
  abbrev pub ReadsAgree : List Event → List Event → Type 0
  ReadsAgree before [] = Unit {0}
  ReadsAgree before (e ∷ events) = (e.access.write ≡ false → e.value ≡ answer_now regs before e.access) × ReadsAgree (before ++ e ∷ []) events

  -- no event clashes
  abbrev pub AreFree : List Event → Type 0
  AreFree events = AllByRecursion (λ (e : Event). clash e.access fired ≡ None) events

  abbrev pub decides : List Event → Event → Option Verdict
  decides before e = decision (clash e.access fired) (staleness (answer_now regs before e.access) e)

  -- the event at which a verdict is decided, and those before it
  pub record DecidedAt (before events : List Event) (v : Verdict) : Type 0 where
    pub earlier : List Event
    pub event : Event
    pub later : List Event
    pub split : events ≡ earlier ++ event ∷ later
    pub agree : ReadsAgree before earlier
    pub decided : decides (before ++ earlier) event ≡ Some v

  same_values : (a b : BitVector) → is_same a b ≡ true → a ≡ b
  same_values a b h =
      let parts = and_parts (a.width == b.width) (a.number == b.number) h in
      ap₂ (λ (w n : ℕ). let v : BitVector = record { width = w; number = n } in v) (eqb-true a.width b.width parts.0) (eqb-true a.number b.number parts.1)

  -- an event that decides nothing clashes with nothing, and if it is a read, has its answer now
  undecided : (before : List Event) (e : Event) → decides before e ≡ None → (clash e.access fired ≡ None) × (e.access.write ≡ false → e.value ≡ answer_now regs before e.access)
  undecided before e h = by_clash (clash e.access fired) refl h
    where
      now : BitVector
      now = answer_now regs before e.access

      by_test : (write same : Bool) → e.access.write ≡ write → is_same e.value now ≡ same → decision None (if write || same then None else Some (record { register = e.access.register; port = e.access.port; held = e.value; now = now })) ≡ None → e.access.write ≡ false → e.value ≡ now
      by_test true same w s k read = absurd (both_ways e.access.write read w)
      by_test false true w s k read = same_values e.value now s
      by_test false false w s k read = absurd cc

      by_clash : (o : Option Cause) → clash e.access fired ≡ o → decision o (staleness now e) ≡ None → (clash e.access fired ≡ None) × (e.access.write ≡ false → e.value ≡ now)
      by_clash (Some c) is k = absurd cc
      by_clash None is k = (is, by_test e.access.write (is_same e.value now) refl refl k)

  -- a verdict is decided at an event, or else by the outcome behind events that all agree
  pub decided : (before events : List Event) (outcome : Outcome) → (ReadsAgree before events × AreFree events × (verdict_from regs fired before events outcome ≡ at_end outcome)) ⊎ DecidedAt before events (verdict_from regs fired before events outcome)
  decided before [] outcome = inl (tt, tt, refl)
  decided before (e ∷ events) outcome = at (decides before e) refl (decided (before ++ e ∷ []) events outcome)
    where
      at : (o : Option Verdict) → decides before e ≡ o
          → ((ReadsAgree (before ++ e ∷ []) events × AreFree events × (verdict_from regs fired (before ++ e ∷ []) events outcome ≡ at_end outcome)) ⊎ DecidedAt (before ++ e ∷ []) events (verdict_from regs fired (before ++ e ∷ []) events outcome))
          → (ReadsAgree before (e ∷ events) × AreFree (e ∷ events) × (unwrap_or (decides before e) (verdict_from regs fired (before ++ e ∷ []) events outcome) ≡ at_end outcome)) ⊎ DecidedAt before (e ∷ events) (unwrap_or (decides before e) (verdict_from regs fired (before ++ e ∷ []) events outcome))
      at (Some v) is next =
          let same : unwrap_or (decides before e) (verdict_from regs fired (before ++ e ∷ []) events outcome) ≡ v = ap (λ (o : Option Verdict). unwrap_or o (verdict_from regs fired (before ++ e ∷ []) events outcome)) is in
          inr (record { earlier = []; event = e; later = events; split = refl; agree = tt; decided = ap (λ (b : List Event). decides b e) (append-nil before) ∙ is ∙ ap Some (sym same) })
      at None is (inl (agree, free, ends)) =
          let free_here = undecided before e is in
          inl ((free_here.1, agree), (free_here.0, free), ap (λ (o : Option Verdict). unwrap_or o (verdict_from regs fired (before ++ e ∷ []) events outcome)) is ∙ ends)
      at None is (inr at_event) =
          let free_here = undecided before e is in
          let same : unwrap_or (decides before e) (verdict_from regs fired (before ++ e ∷ []) events outcome) ≡ verdict_from regs fired (before ++ e ∷ []) events outcome = ap (λ (o : Option Verdict). unwrap_or o (verdict_from regs fired (before ++ e ∷ []) events outcome)) is in
          inr (record {
            earlier = e ∷ at_event.earlier;
            event = at_event.event;
            later = at_event.later;
            split = ap (λ (es : List Event). e ∷ es) at_event.split;
            agree = (free_here.1, at_event.agree);
            decided = ap (λ (b : List Event). decides b at_event.event) (sym (append_assoc before (e ∷ []) at_event.earlier)) ∙ at_event.decided ∙ ap Some (sym same);
          })

  -- what an event decides is a clash or a read that differs
  pub not_commit : (before : List Event) (e : Event) → decides before e ≡ Some Commit → ⊥
  not_commit before e h = at (clash e.access fired) (staleness (answer_now regs before e.access) e) h
    where
      at : (o : Option Cause) (s : Option StaleRead) → decision o s ≡ Some Commit → ⊥
      at (Some c) s k = absurd cc
      at None (Some s) k = absurd cc
      at None None k = absurd cc

  pub skip_is_clash : (before : List Event) (e : Event) (cause : Cause) → decides before e ≡ Some (Skip cause) → is_some (clash e.access fired) ≡ true
  skip_is_clash before e cause h = at (clash e.access fired) (staleness (answer_now regs before e.access) e) h
    where
      at : (o : Option Cause) (s : Option StaleRead) → decision o s ≡ Some (Skip cause) → is_some o ≡ true
      at (Some c) s k = refl
      at None (Some s) k = absurd cc
      at None None k = absurd cc

  pub stale_is_stale : (before : List Event) (e : Event) (read : StaleRead) → decides before e ≡ Some (Stale read) → staleness (answer_now regs before e.access) e ≡ Some read
  stale_is_stale before e read h = at (clash e.access fired) (staleness (answer_now regs before e.access) e) h
    where
      at : (o : Option Cause) (s : Option StaleRead) → decision o s ≡ Some (Stale read) → s ≡ Some read
      at (Some c) s k = absurd cc
      at None (Some s) k = cc
      at None None k = absurd cc

-- ---- clashes

-- an access clashes with a rule's events where they refuse it
refused_some : (access : Access) (events : List Event) → is_refused events access ≡ is_some (first_clash access events)
refused_some access [] = refl
refused_some access (e ∷ events) = chosen (clashes access e.access) (refused_some access events)
  where
    chosen : (b : Bool) → is_refused events access ≡ is_some (first_clash access events) → (b || is_refused events access) ≡ is_some (if b then Some (named_first e.access (first_clash access events)) else first_clash access events)
    chosen true h = refl
    chosen false h = h

clash_some : (access : Access) (fired : List Fired) → is_some (clash access fired) ≡ list_any (λ (f : Fired). is_refused f.events access) fired
clash_some access [] = refl
clash_some access (f ∷ fired) =
    chosen (first_clash access f.events) (clash_some access fired)
    ∙ ap (λ (b : Bool). b || list_any (λ (f : Fired). is_refused f.events access) fired) (sym (refused_some access f.events))
  where
    chosen : (o : Option Access) → is_some (clash access fired) ≡ list_any (λ (f : Fired). is_refused f.events access) fired → is_some (clash_or access f.rule o (clash access fired)) ≡ (is_some o || list_any (λ (f : Fired). is_refused f.events access) fired)
    chosen (Some a) h = refl
    chosen None h = h

or_nothing : (a : Bool) → (a || false) ≡ a
or_nothing true = refl
or_nothing false = refl

-- pairs of events clash in either order of looking at them
clash_is_meeting : (events earlier : List Event) → clash_with_events events earlier ≡ meets earlier events
clash_is_meeting events earlier = sym (or_nothing (clash_with_events events earlier)) ∙ clash_with-push [] events [] (record { rule = 0; events = earlier }) (none events)
  where
    none : (es : List Event) → false ≡ meets [] es
    none [] = refl
    none (e ∷ es) = none es

neither : (a b : Bool) → (a || b) ≡ false → (a ≡ false) × (b ≡ false)
neither true b h = absurd cc
neither false b h = (refl, h)

-- events that are free of clashes clash with no rule
pub free_is_clear : (fired : List Fired) (events : List Event) → AllByRecursion (λ (e : Event). clash e.access fired ≡ None) events → clash_with events fired ≡ false
free_is_clear fired events free = of_refused fired (each events free)
  where
    each : (es : List Event) → AllByRecursion (λ (e : Event). clash e.access fired ≡ None) es → AllByRecursion (λ (e : Event). list_any (λ (f : Fired). is_refused f.events e.access) fired ≡ false) es
    each [] h = tt
    each (e ∷ es) h = (sym (clash_some e.access fired) ∙ ap (λ (o : Option Cause). is_some o) h.0, each es h.1)

    heads : (f : Fired) (rest : List Fired) (es : List Event) → AllByRecursion (λ (e : Event). list_any (λ (f : Fired). is_refused f.events e.access) (f ∷ rest) ≡ false) es → meets f.events es ≡ false
    heads f rest [] h = refl
    heads f rest (e ∷ es) h =
        let parts = neither (is_refused f.events e.access) (list_any (λ (f : Fired). is_refused f.events e.access) rest) h.0 in
        ap (λ (b : Bool). b || meets f.events es) parts.0 ∙ heads f rest es h.1

    tails : (f : Fired) (rest : List Fired) (es : List Event) → AllByRecursion (λ (e : Event). list_any (λ (f : Fired). is_refused f.events e.access) (f ∷ rest) ≡ false) es
        → AllByRecursion (λ (e : Event). list_any (λ (f : Fired). is_refused f.events e.access) rest ≡ false) es
    tails f rest [] h = tt
    tails f rest (e ∷ es) h = ((neither (is_refused f.events e.access) (list_any (λ (f : Fired). is_refused f.events e.access) rest) h.0).1, tails f rest es h.1)

    of_refused : (some : List Fired) → AllByRecursion (λ (e : Event). list_any (λ (f : Fired). is_refused f.events e.access) some ≡ false) events → clash_with events some ≡ false
    of_refused [] h = refl
    of_refused (f ∷ rest) h =
        ap₂ (λ a b. a || b) (clash_is_meeting events f.events ∙ heads f rest events h) (of_refused rest (tails f rest events h))

-- an event with this access is among them
abbrev pub Has : Access → List Event → Type 0
Has access [] = ⊥
Has access (e ∷ events) = (e.access ≡ access) ⊎ Has access events

-- events with an access that clashes clash with a rule
pub clash_is_behind : (access : Access) (fired : List Fired) (events : List Event) → Has access events → is_some (clash access fired) ≡ true → clash_with events fired ≡ true
clash_is_behind access fired events has h = of_refused fired (sym (clash_some access fired) ∙ h)
  where
    met : (log es : List Event) → Has access es → is_refused log access ≡ true → meets log es ≡ true
    met log [] has h = absurd has
    met log (e ∷ es) (inl here) h = or_left (is_refused log e.access) (meets log es) (ap (is_refused log) here ∙ h)
    met log (e ∷ es) (inr more) h = or_right (is_refused log e.access) (meets log es) (met log es more h)

    of_refused : (some : List Fired) → list_any (λ (f : Fired). is_refused f.events access) some ≡ true → clash_with events some ≡ true
    of_refused [] h = absurd cc
    of_refused (f ∷ rest) h = chosen (or_cases (is_refused f.events access) (list_any (λ (f : Fired). is_refused f.events access) rest) h) (of_refused rest)
      where
        chosen : (is_refused f.events access ≡ true) ⊎ (list_any (λ (f : Fired). is_refused f.events access) rest ≡ true) → (list_any (λ (f : Fired). is_refused f.events access) rest ≡ true → clash_with events rest ≡ true) → clash_with events (f ∷ rest) ≡ true
        chosen (inl k) more = or_left (clash_with_events events f.events) (clash_with events rest) (clash_is_meeting events f.events ∙ met f.events events has k)
        chosen (inr k) more = or_right (clash_with_events events f.events) (clash_with events rest) (more k)
