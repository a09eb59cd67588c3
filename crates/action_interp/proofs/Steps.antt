-- A read or a write that is let through is noted, and one that is refused stops the rule, behind any events that the
-- scheduler log stands for.
use Rattle.std.proofs.Common.{◌≡◌, ℕ, ◌<◌, Bool, true, false, List, [], ◌∷◌, ◌++◌, length, Some, refl, sym, ap, ◌∙◌, subst}
use Rattle.std.specs.Prelude.{◌||◌, not, slice_get, slice_index_or, if◌then◌else◌}
use Rattle.std.proofs.lemmas.Option.{slice_get-get_or}
use Rattle.kw_bits.specs.BitVector.{BitVector}
use Rattle.kw_bits.specs.Laws.{HasWidth}
use Rattle.typed_core.specs.Alone.{is_refused, seen}
use Rattle.typed_core.specs.Evaluation.{Ending, Progress, Stop, Value, unit}
use Rattle.typed_core.specs.Fits.{EventFits}
use Rattle.typed_core.specs.Valid.{IsPort}
use Rattle.typed_core.specs.declared.access.Access.{Access}
use Rattle.typed_core.specs.declared.access.Event.{Event}
use Rattle.typed_core.specs.declared.outcome.Stopped.{Stopped}
use Rattle.typed_core.specs.declared.outcome.Stopped.TheVariants.{Refused}
use Rattle.typed_core.proofs.Events.{seen_fits}
use Rattle.rule_log.specs.StandsFor.{RegisterLog, StandsFor}
use Rattle.action_interp.specs.inner.ByLog.{IsRunning, read_by, refused_by, seen_by, widths_of, write_by}
use Rattle.action_interp.proofs.ByLog.{refused_alike, seen_alike}

-- the answer to an access is this, from these events
abbrev pub Comes : List BitVector → RegisterLog → RegisterLog → Progress BitVector Stopped → Ending BitVector Stopped → Type 0
Comes regs sched log p ending = IsRunning regs sched log p.events × (p.ending ≡ ending)

-- the log with one event more
abbrev pub Notes : RegisterLog → RegisterLog → Event → Type 0
Notes log new e =
    (widths : List ℕ) (events : List Event) → StandsFor widths log events → EventFits widths e
    → (e.access.write ≡ true → is_refused events e.access ≡ false) → StandsFor widths new (events ++ e ∷ [])

passes : (may refused : Bool) → may ≡ not refused → may ≡ true → refused ≡ false
passes true false e h = refl
passes true true e h = absurd cc
passes false refused e h = absurd cc

stops : (may refused : Bool) → may ≡ not refused → may ≡ false → refused ≡ true
stops false true e h = refl
stops false false e h = absurd cc
stops true refused e h = absurd cc

module _ (regs : List BitVector) (sched log : RegisterLog) (port register : ℕ) (events : List Event) (running : IsRunning regs sched log events) where
  abbrev read_access : Access
  read_access = record { write = false; port = port; register = register }

  abbrev MayRead : Bool → Type 0
  MayRead may = (widths : List ℕ) (before : List Event) → StandsFor widths sched before → may ≡ not (is_refused before read_access)

  by_log : is_refused running.behind.0 read_access ≡ refused_by sched read_access
  by_log = refused_alike (widths_of regs) sched running.behind.0 running.behind.1 read_access

  pub read_stops : (may : Bool) → MayRead may → may ≡ false → Comes regs sched log (read_by sched regs port register events) (Stop (Refused read_access))
  read_stops may is fails =
      let value = seen port register events (seen_by sched port register (slice_index_or regs register unit)) in
      let refused : refused_by sched read_access ≡ true = sym by_log ∙ stops may _ (is (widths_of regs) running.behind.0 running.behind.1) fails in
      subst (λ (b : Bool). Comes regs sched log (if b then record { events = events; ending = Stop (Refused read_access) } else record { events = events ++ record { access = read_access; value = value } ∷ []; ending = Value value }) (Stop (Refused read_access))) (sym refused) (running, refl)

  pub read_notes : (new : RegisterLog) (start value : BitVector) (may : Bool) → IsPort port → register < length (widths_of regs) → start ≡ slice_index_or regs register unit
      → ((widths : List ℕ) (es before : List Event) → StandsFor widths log es → StandsFor widths sched before → value ≡ seen port register es (seen port register before start))
      → MayRead may → may ≡ true → Notes log new (record { access = read_access; value = value })
      → Comes regs sched new (read_by sched regs port register events) (Value value)
  read_notes new start value may at within begins shows is holds notes =
      subst (λ (b : Bool). Comes regs sched new (if b then record { events = events; ending = Stop (Refused read_access) } else record { events = events ++ record { access = read_access; value = shown } ∷ []; ending = Value shown }) (Value value)) (sym refused)
      (subst (λ (v : BitVector). Comes regs sched new (record { events = events ++ record { access = read_access; value = v } ∷ []; ending = Value v }) (Value value)) same
      (record { fits = running.fits; behind = running.behind; noted = notes (widths_of regs) events running.noted fit (λ h. absurd cc) }, refl))
    where
      shown : BitVector
      shown = seen port register events (seen_by sched port register (slice_index_or regs register unit))

      refused : refused_by sched read_access ≡ false
      refused = sym by_log ∙ passes may _ (is (widths_of regs) running.behind.0 running.behind.1) holds

      sees : value ≡ seen port register events (seen port register running.behind.0 start)
      sees = shows (widths_of regs) events running.behind.0 running.noted running.behind.1

      same : value ≡ shown
      same = sees ∙ ap (λ (v : BitVector). seen port register events (seen port register running.behind.0 v)) begins
          ∙ ap (λ (v : BitVector). seen port register events v) (seen_alike (widths_of regs) sched running.behind.0 running.behind.1 port register (slice_index_or regs register unit))

      width : ℕ
      width = slice_index_or (widths_of regs) register 0

      found : slice_get (widths_of regs) register ≡ Some width
      found = slice_get-get_or (widths_of regs) register 0 within

      wide : HasWidth value width
      wide = subst (λ (v : BitVector). HasWidth v width) (sym (sees ∙ ap (λ (v : BitVector). seen port register events (seen port register running.behind.0 v)) begins))
          (seen_fits (widths_of regs) port register width events _ found running.noted.tells.fit (seen_fits (widths_of regs) port register width running.behind.0 _ found running.behind.1.tells.fit (running.fits.each register width found)))

      fit : EventFits (widths_of regs) (record { access = read_access; value = value })
      fit = record { port = at; value = (width, found, wide) }

module _ (regs : List BitVector) (sched log : RegisterLog) (port register : ℕ) (value : BitVector) (events : List Event) (running : IsRunning regs sched log events) where
  abbrev write_access : Access
  write_access = record { write = true; port = port; register = register }

  abbrev MayWrite : Bool → Type 0
  MayWrite may = (widths : List ℕ) (es before : List Event) → StandsFor widths log es → StandsFor widths sched before → may ≡ not (is_refused before write_access || is_refused es write_access)

  by_logs : (is_refused running.behind.0 write_access || is_refused events write_access) ≡ (refused_by sched write_access || is_refused events write_access)
  by_logs = ap (λ (b : Bool). b || is_refused events write_access) (refused_alike (widths_of regs) sched running.behind.0 running.behind.1 write_access)

  pub write_stops : (may : Bool) → MayWrite may → may ≡ false → Comes regs sched log (write_by sched port register value events) (Stop (Refused write_access))
  write_stops may is fails =
      let refused : (refused_by sched write_access || is_refused events write_access) ≡ true = sym by_logs ∙ stops may _ (is (widths_of regs) events running.behind.0 running.noted running.behind.1) fails in
      subst (λ (b : Bool). Comes regs sched log (if b then record { events = events; ending = Stop (Refused write_access) } else record { events = events ++ record { access = write_access; value = value } ∷ []; ending = Value unit }) (Stop (Refused write_access))) (sym refused) (running, refl)

  second_clear : (a b : Bool) → (a || b) ≡ false → b ≡ false
  second_clear true b h = absurd cc
  second_clear false b h = h

  pub write_notes : (new : RegisterLog) (may : Bool) → IsPort port → slice_get (widths_of regs) register ≡ Some value.width → HasWidth value value.width
      → MayWrite may → may ≡ true → Notes log new (record { access = write_access; value = value })
      → Comes regs sched new (write_by sched port register value events) (Value unit)
  write_notes new may at found wide is holds notes =
      let clear : (is_refused running.behind.0 write_access || is_refused events write_access) ≡ false = passes may _ (is (widths_of regs) events running.behind.0 running.noted running.behind.1) holds in
      let refused : (refused_by sched write_access || is_refused events write_access) ≡ false = sym by_logs ∙ clear in
      subst (λ (b : Bool). Comes regs sched new (if b then record { events = events; ending = Stop (Refused write_access) } else record { events = events ++ record { access = write_access; value = value } ∷ []; ending = Value unit }) (Value unit)) (sym refused) (
        record {
          fits = running.fits;
          behind = running.behind;
          noted = notes (widths_of regs) events running.noted (record { port = at; value = (value.width, found, wide) }) (λ h. second_clear _ _ clear);
        },
        refl,
      )
