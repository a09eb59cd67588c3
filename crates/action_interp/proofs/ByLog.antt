-- What a log's flags and values refuse and show is what every list of events that it stands for does. So a rule comes to
-- the same by them.
use Rattle.std.proofs.Common.{◌≡◌, ◌⊎◌, ℕ, zero, suc, ◌<◌, ◌≤◌, Bool, true, false, List, [], ◌∷◌, ◌++◌, length, min, Some, refl, sym, ap, ap₂, ◌∙◌, subst, inl, inr, eqb-true, arith}
use Rattle.std.specs.Prelude.{◌==◌, ◌&&◌, ◌||◌, nat_le, nat_lt, slice_get, slice_index_or, if◌then◌else◌}
use Rattle.std.specs.List.{list_any}
use Rattle.std.proofs.lemmas.Bool.{and_left, and_right, cases_Bool, cases_eq, cases_lt, false_from_ne_true, both_ways, le-leb, leb-true, lt-ltb, or_from, or_parts}
use Rattle.std.proofs.lemmas.List.{get_or_past}
use Rattle.std.proofs.lemmas.Option.{slice_get_within}
use Rattle.kw_bits.specs.BitVector.{BitVector}
use Rattle.kw_bits.specs.Laws.{HasWidth}
use Rattle.typed_core.specs.Alone.{is_refused, is_write_below, seen}
use Rattle.typed_core.specs.Evaluation.{Environment, Evaluation, Progress, Stop, Value, bind, evaluate, unit}
use Rattle.typed_core.specs.Fits.{EventsFit, PortsFit, ProgressFits}
use Rattle.typed_core.specs.Valid.{IsPort}
use Rattle.typed_core.specs.Widths.{HaveWidths}
use Rattle.typed_core.specs.declared.access.Access.{Access}
use Rattle.typed_core.specs.declared.access.Event.{Event}
use Rattle.typed_core.specs.declared.action.Action.{Action}
use Rattle.typed_core.specs.declared.limits.TheConstants.{PORTS}
use Rattle.typed_core.specs.declared.outcome.Stopped.{Stopped}
use Rattle.typed_core.specs.declared.outcome.Stopped.TheVariants.{Refused}
use Rattle.typed_core.proofs.Events.{EventsFit-append, seen_fits}
use Rattle.typed_core.proofs.Readings.{Relates, evaluate_related}
use Rattle.typed_core.proofs.Values.{ValueFits-unit, ValueFits-bits}
use Rattle.one_rule.specs.PortRun.{ports_behind}
use Rattle.rule_log.specs.inner.OneRegister.{written_below}
use Rattle.rule_log.specs.StandsFor.{RegisterLog, StandsFor, WritesFollow, is_access, is_set, registers, written}
use Rattle.rule_log.proofs.Logs.{below_is_seen, below_none, no_flag, nothing_set}
use Rattle.rule_log.proofs.Telling.{access_parts, all_append, refused_by_flags, unrefused}
use Rattle.action_interp.specs.inner.ByLog.{any_from, ports_by, read_by, refused_by, seen_by, write_by}

-- ---- flags from a port on

none_from : (log : RegisterLog) (write : Bool) (register first count : ℕ) → any_from log write register first count ≡ false → (at : ℕ) → first ≤ at → at < count → is_set log write at register ≡ false
none_from log write register first zero h at above below = absurd (omega arith)
none_from log write register first (suc port) h at above below = chosen (cases_eq at port) (λ less. none_from log write register first port parts.1 at above less)
  where
    parts : ((nat_le first port && is_set log write port register) ≡ false) × (any_from log write register first port ≡ false)
    parts = or_parts (nat_le first port && is_set log write port register) (any_from log write register first port) h

    chosen : (at ≡ port) ⊎ (at ≡ port → ⊥) → (at < port → is_set log write at register ≡ false) → is_set log write at register ≡ false
    chosen (inl e) lower =
        let here : nat_le first port ≡ true = le-leb first port (omega arith) in
        ap (λ (n : ℕ). is_set log write n register) e ∙ ap (λ (b : Bool). b && is_set log write port register) (sym here) ∙ parts.0
    chosen (inr ne) lower = lower (omega arith)

from_none : (log : RegisterLog) (write : Bool) (register first count : ℕ) → ((at : ℕ) → first ≤ at → at < count → is_set log write at register ≡ false) → any_from log write register first count ≡ false
from_none log write register first zero h = refl
from_none log write register first (suc port) h =
    or_from (nat_le first port && is_set log write port register) (any_from log write register first port)
    (here (cases_Bool (nat_le first port)))
    (from_none log write register first port (λ at above below. h at above (omega arith)))
  where
    here : (nat_le first port ≡ true) ⊎ (nat_le first port ≡ false) → (nat_le first port && is_set log write port register) ≡ false
    here (inl le) = and_right (nat_le first port) (is_set log write port register) (h port (leb-true first port le) (omega arith))
    here (inr above) = and_left (nat_le first port) (is_set log write port register) above

-- ---- registers that there aren't

no_access : (widths : List ℕ) (events : List Event) → EventsFit widths events → (write : Bool) (port register : ℕ) → length widths ≤ register → list_any (is_access write port register) events ≡ false
no_access widths [] fit write port register past = refl
no_access widths (e ∷ events) fit write port register past =
    or_from (is_access write port register e) (list_any (is_access write port register) events)
    (false_from_ne_true (is_access write port register e) (λ h.
    let within : e.access.register < length widths = slice_get_within widths e.access.register fit.0.value.0 fit.0.value.1 in
    omega (arith, (access_parts write e port register h).2)))
    (no_access widths events fit.1 write port register past)

none_set : (log : RegisterLog) (register : ℕ) → registers log ≤ register → (write : Bool) (port : ℕ) → is_set log write port register ≡ false
none_set log register past write port = nothing_set log register (get_or_past log.flags register no_flag past) write port

seen_past : (widths : List ℕ) (events : List Event) (port register : ℕ) (start : BitVector) → EventsFit widths events → length widths ≤ register → seen port register events start ≡ start
seen_past widths [] port register start fit past = refl
seen_past widths (e ∷ events) port register start fit past =
    let within : e.access.register < length widths = slice_get_within widths e.access.register fit.0.value.0 fit.0.value.1 in
    let other : is_write_below port register e.access ≡ false =
    and_left (e.access.write && (e.access.register == register)) (nat_lt e.access.port port)
    (and_right e.access.write (e.access.register == register) (false_from_ne_true (e.access.register == register) (λ h. omega (arith, eqb-true e.access.register register h)))) in
    ap (λ (b : Bool). seen port register events (if b then e.value else start)) other ∙ seen_past widths events port register start fit.1 past

-- a port above all sees what the one past the last does
seen_above : (widths : List ℕ) (events : List Event) (port register : ℕ) (start : BitVector) → EventsFit widths events → PORTS ≤ port → seen port register events start ≡ seen PORTS register events start
seen_above widths [] port register start fit above = refl
seen_above widths (e ∷ events) port register start fit above =
    let at : IsPort e.access.port = fit.0.port in
    let both : nat_lt e.access.port port ≡ nat_lt e.access.port PORTS = lt-ltb e.access.port port (omega arith) ∙ sym (lt-ltb e.access.port PORTS at) in
    ap (λ (b : Bool). seen port register events (if (e.access.write && (e.access.register == register)) && b then e.value else start)) both
    ∙ seen_above widths events port register _ fit.1 above

module _ (widths : List ℕ) (log : RegisterLog) (before : List Event) (stands : StandsFor widths log before) where
  pub refused_alike : (a : Access) → is_refused before a ≡ refused_by log a
  refused_alike a = chosen (cases_lt a.register (length widths))
    where
      chosen : (a.register < length widths) ⊎ (length widths ≤ a.register) → is_refused before a ≡ refused_by log a
      chosen (inl within) =
          sym (refused_by_flags widths (is_set log) (written log) before stands.tells a within (λ write at. is_set log write at a.register) (λ write at. refl) (any_from log true a.register a.port PORTS) (any_from log false a.register (suc a.port) PORTS)
          (λ h at above p. none_from log true a.register a.port PORTS h at above p, λ h. from_none log true a.register a.port PORTS (λ at above p. h at above p))
          (λ is. (λ h at above p. none_from log false a.register (suc a.port) PORTS h at (omega arith) p, λ h. from_none log false a.register (suc a.port) PORTS (λ at above p. h at (omega arith) p))))
      chosen (inr past) =
          let none : (write : Bool) (port : ℕ) → is_set log write port a.register ≡ false = none_set log a.register (omega (arith, stands.count)) in
          unrefused widths a before stands.tells.fit
          (λ at above p. no_access widths before stands.tells.fit true at a.register past)
          (λ is at above p. no_access widths before stands.tells.fit false at a.register past)
          ∙ sym (or_from (any_from log true a.register a.port PORTS) (a.write && any_from log false a.register (suc a.port) PORTS)
          (from_none log true a.register a.port PORTS (λ at above p. none true at))
          (and_right a.write (any_from log false a.register (suc a.port) PORTS) (from_none log false a.register (suc a.port) PORTS (λ at above p. none false at))))

  pub seen_alike : (port register : ℕ) (start : BitVector) → seen port register before start ≡ seen_by log port register start
  seen_alike port register start = chosen (cases_lt register (length widths)) (cases_lt port PORTS)
    where
      chosen : (register < length widths) ⊎ (length widths ≤ register) → (port < PORTS) ⊎ (PORTS ≤ port) → seen port register before start ≡ seen_by log port register start
      chosen (inl within) (inl below) =
          let e : min port PORTS ≡ port = omega arith in
          sym (below_is_seen widths log before stands port register start (omega arith) within) ∙ ap (λ (n : ℕ). written_below log n register start) (sym e)
      chosen (inl within) (inr above) =
          let e : min port PORTS ≡ PORTS = omega arith in
          seen_above widths before port register start stands.tells.fit above
          ∙ sym (below_is_seen widths log before stands PORTS register start (omega arith) within) ∙ ap (λ (n : ℕ). written_below log n register start) (sym e)
      chosen (inr past) h =
          seen_past widths before port register start stands.tells.fit past
          ∙ sym (below_none log (min port PORTS) register start (λ at below. none_set log register (omega (arith, stands.count)) true at))

  -- ---- reads and writes

  read_alike : (regs : List BitVector) (port register : ℕ) (events : List Event) → read_by log regs port register events ≡ (ports_behind before regs).read port register events
  read_alike regs port register events =
      let access : Access = record { write = false; port = port; register = register } in
      let start = slice_index_or regs register unit in
      ap₂ (λ (b : Bool) (v : BitVector).
      let p : Progress BitVector Stopped = if b then record { events = events; ending = Stop (Refused access) } else record { events = events ++ record { access = access; value = seen port register events v } ∷ []; ending = Value (seen port register events v) } in p)
      (sym (refused_alike access)) (sym (seen_alike port register start))

  write_alike : (regs : List BitVector) (port register : ℕ) (value : BitVector) (events : List Event) → write_by log port register value events ≡ (ports_behind before regs).write port register value events
  write_alike regs port register value events =
      let access : Access = record { write = true; port = port; register = register } in
      ap (λ (b : Bool).
      let p : Progress BitVector Stopped = if b || is_refused events access then record { events = events; ending = Stop (Refused access) } else record { events = events ++ record { access = access; value = value } ∷ []; ending = Value unit } in p)
      (sym (refused_alike access))

  -- an action comes to the same
  pub evaluates_alike : (env : Environment) (regs : List BitVector) (action : Action) (locals : List BitVector) (events : List Event) → evaluate env (ports_by log regs) action locals events ≡ evaluate env (ports_behind before regs) action locals events
  evaluates_alike env regs action locals events = evaluate_related env (ports_by log regs) (ports_behind before regs) R relates action locals events
    where
      R : List Event → Progress BitVector Stopped → Progress BitVector Stopped → Type 0
      R es p q = p ≡ q

      bound : (p q : Progress BitVector Stopped) (f g : BitVector → Evaluation BitVector Stopped) → p ≡ q → ((value : BitVector) (es : List Event) → f value es ≡ g value es) → bind p.events p.ending f ≡ bind q.events q.ending g
      bound p q f g e h = subst (λ (r : Progress BitVector Stopped). bind r.events r.ending f ≡ bind q.events q.ending g) (sym e) (same q.ending)
        where
          same : (ending : _) → bind q.events ending f ≡ bind q.events ending g
          same (Value value) = h value q.events
          same (Stop cause) = refl

      relates : Relates (ports_by log regs) (ports_behind before regs) R
      relates = record {
        value = λ es value. refl;
        bind = λ es p q f g e h. bound p q f g e h;
        read = λ port register es. read_alike regs port register es;
        write = λ port register value es. write_alike regs port register value es;
        abort = λ es. refl;
      }

-- ---- what fits

-- the ports behind a log that fits keep events fitting
PortsFit-behind : (widths : List ℕ) (before : List Event) (regs : List BitVector) → EventsFit widths before → HaveWidths widths regs → PortsFit widths (ports_behind before regs)
PortsFit-behind widths before regs fit fits = record { read = reads; write = writes }
  where
    read_fits : (port register width : ℕ) (value : BitVector) (refused : Bool) (events : List Event) → IsPort port → slice_get widths register ≡ Some width → HasWidth value width → EventsFit widths events
        → let a : Access = record { write = false; port = port; register = register } in
        let p : Progress BitVector Stopped = if refused then record { events = events; ending = Stop (Refused a) } else record { events = events ++ record { access = a; value = value } ∷ []; ending = Value value } in
        ProgressFits widths width p
    read_fits port register width value true events at r h e = (e, tt)
    read_fits port register width value false events at r h e =
        (EventsFit-append widths events _ e (record { port = at; value = (width, r, h) }, tt), ValueFits-bits width value h)

    reads : (port register width : ℕ) (events : List Event) → IsPort port → slice_get widths register ≡ Some width → EventsFit widths events → ProgressFits widths width ((ports_behind before regs).read port register events)
    reads port register width events at r e =
        let value = seen_fits widths port register width events _ r e (seen_fits widths port register width before _ r fit (fits.each register width r)) in
        read_fits port register width _ (is_refused before (record { write = false; port = port; register = register })) events at r value e

    write_fits : (port register width : ℕ) (value : BitVector) (refused : Bool) (events : List Event) → IsPort port → slice_get widths register ≡ Some width → HasWidth value width → EventsFit widths events
        → let a : Access = record { write = true; port = port; register = register } in
        let p : Progress BitVector Stopped = if refused then record { events = events; ending = Stop (Refused a) } else record { events = events ++ record { access = a; value = value } ∷ []; ending = Value unit } in
        ProgressFits widths 0 p
    write_fits port register width value true events at r h e = (e, tt)
    write_fits port register width value false events at r h e =
        (EventsFit-append widths events _ e (record { port = at; value = (width, r, h) }, tt), ValueFits-unit)

    writes : (port register width : ℕ) (value : BitVector) (events : List Event) → IsPort port → slice_get widths register ≡ Some width → HasWidth value width → EventsFit widths events → ProgressFits widths 0 ((ports_behind before regs).write port register value events)
    writes port register width value events at r h e =
        let a : Access = record { write = true; port = port; register = register } in
        write_fits port register width value (is_refused before a || is_refused events a) events at r h e

-- so do those by a log that stands for it
pub PortsFit-by : (widths : List ℕ) (log : RegisterLog) (before : List Event) (regs : List BitVector) → StandsFor widths log before → HaveWidths widths regs → PortsFit widths (ports_by log regs)
PortsFit-by widths log before regs stands fits = record {
  read = λ port register width events at r e. subst (λ (p : Progress BitVector Stopped). ProgressFits widths width p) (sym (read_alike widths log before stands regs port register events)) (fit.read port register width events at r e);
  write = λ port register width value events at r h e. subst (λ (p : Progress BitVector Stopped). ProgressFits widths 0 p) (sym (write_alike widths log before stands regs port register value events)) (fit.write port register width value events at r h e);
}
  where
    fit : PortsFit widths (ports_behind before regs)
    fit = PortsFit-behind widths before regs stands.tells.fit fits

-- ---- writes that are noted

-- the log refuses no write that a rule makes behind it
pub writes_follow : (env : Environment) (before : List Event) (regs : List BitVector) (action : Action) (locals events : List _) → WritesFollow before events → WritesFollow before (evaluate env (ports_behind before regs) action locals events).events
writes_follow env before regs action locals events h = evaluate_related env (ports_behind before regs) (ports_behind before regs) R relates action locals events h
  where
    R : List Event → Progress BitVector Stopped → Progress BitVector Stopped → Type 0
    R es p q = WritesFollow before es → WritesFollow before p.events

    Free : Event → Type 0
    Free e = e.access.write ≡ true → is_refused before e.access ≡ false

    bound : (es : List Event) (p : Progress BitVector Stopped) (f g : BitVector → Evaluation BitVector Stopped) → R es p p → ((value : BitVector) (es : List Event) → R es (f value es) (g value es)) → (ending : _) → p.ending ≡ ending → WritesFollow before es → WritesFollow before (bind p.events ending f).events
    bound es p f g h k (Value value) e follow = k value p.events (h follow)
    bound es p f g h k (Stop cause) e follow = h follow

    read_follows : (a : Access) (value : BitVector) (refused : Bool) (es : List Event) → a.write ≡ false
        → let p : Progress BitVector Stopped = if refused then record { events = es; ending = Stop (Refused a) } else record { events = es ++ record { access = a; value = value } ∷ []; ending = Value value } in
        WritesFollow before es → WritesFollow before p.events
    read_follows a value true es reads follow = follow
    read_follows a value false es reads follow = all_append Free es _ follow (λ is. absurd (both_ways a.write reads is), tt)

    write_follows : (a : Access) (value : BitVector) (first second : Bool) (es : List Event) → is_refused before a ≡ first
        → let p : Progress BitVector Stopped = if first || second then record { events = es; ending = Stop (Refused a) } else record { events = es ++ record { access = a; value = value } ∷ []; ending = Value unit } in
        WritesFollow before es → WritesFollow before p.events
    write_follows a value true second es is follow = follow
    write_follows a value false true es is follow = follow
    write_follows a value false false es is follow = all_append Free es _ follow (λ w. is, tt)

    relates : Relates (ports_behind before regs) (ports_behind before regs) R
    relates = record {
      value = λ es value follow. follow;
      bind = λ es p q f g h k follow. bound es p f g h k p.ending refl follow;
      read = λ port register es follow. read_follows (record { write = false; port = port; register = register }) _ (is_refused before (record { write = false; port = port; register = register })) es refl follow;
      write = λ port register value es follow. write_follows (record { write = true; port = port; register = register }) value _ (is_refused es (record { write = true; port = port; register = register })) es refl follow;
      abort = λ es follow. follow;
    }
