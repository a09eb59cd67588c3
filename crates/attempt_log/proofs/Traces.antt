-- What a rule that runs alone gives is a trace of itself, and the events of a trace fit.
use Rattle.std.proofs.Common.{◌≡◌, ℕ, Bool, true, false, List, [], ◌∷◌, ◌++◌, length, Option, Some, None, All, refl, sym, ap, ◌∙◌, subst, append_assoc, append-nil, arith}
use Rattle.std.specs.Prelude.{slice_get, slice_index_or, if◌then◌else◌}
use Rattle.std.proofs.lemmas.Nat.{pow_pos}
use Rattle.std.proofs.lemmas.Option.{get_or_from_slice_get}
use Rattle.std.proofs.lemmas.List.Elements.{All-from_recursion}
use Rattle.kw_bits.specs.BitVector.{BitVector, zero_at}
use Rattle.kw_bits.specs.Laws.{HasWidth}
use Rattle.typed_core.specs.Alone.{alone_ports, is_refused, outcome_of, seen}
use Rattle.typed_core.specs.Evaluation as core
use Rattle.typed_core.specs.Evaluation.{evaluate, Environment, Progress, Stop, Value, unit}
use Rattle.typed_core.specs.Fits.{Continues, EnvironmentFits, EventFits, EventsFit, PortsFit, ProgressFits}
use Rattle.typed_core.specs.Laws.{read_at, write_at}
use Rattle.typed_core.specs.Valid.{IsPort, IsValid, IsWidth, declarations}
use Rattle.typed_core.specs.Widths.{HaveWidths, input_widths, register_widths}
use Rattle.typed_core.specs.declared.access.Access.{Access}
use Rattle.typed_core.specs.declared.access.Event.{Event}
use Rattle.typed_core.specs.declared.design.Parts.{Parts}
use Rattle.typed_core.specs.declared.design.Rule.{Rule}
use Rattle.typed_core.specs.declared.outcome.Alone.{Alone}
use Rattle.typed_core.specs.declared.outcome.Stopped.{Stopped}
use Rattle.typed_core.specs.declared.outcome.Stopped.TheVariants.{Refused}
use Rattle.typed_core.proofs.Events.{EventsFit-append}
use Rattle.typed_core.proofs.Readings.{PortsAppend-alone}
use Rattle.typed_core.proofs.Typed.{evaluate_fits}
use Rattle.typed_core.proofs.Values.{ValueFits-bits, ValueFits-unit, found_holds}
use Rattle.typed_core.proofs.WidthLists.{HaveWidths-empty, found-same}
use Rattle.one_rule.specs.Cycle.{alone_if, environment, system_of}
use Rattle.one_rule.proofs.Fitting.{body_typed, environment_fits}
use Rattle.attempt_log.specs.Attempt.{FitDesign, IsAttempt}
use Rattle.attempt_log.specs.Trace.{IsTrace, ReadFits, ReadsFit, is_read, listed, retrace, trace_ports}
use Rattle.attempt_log.proofs.Along.{AgreeAlong, same_along}

-- ---- the value that is listed

is_read_parts : (port register : ℕ) (e : Event) → is_read port register e ≡ true → (e.access.write ≡ false) × (e.access.register ≡ register)
is_read_parts port register e h = grind arith

-- a read's own event answers it
pub listed-own : (widths : List ℕ) (port register : ℕ) (value : BitVector) → listed widths port register (Some (record { access = read_at port register; value = value })) ≡ value
listed-own widths port register value = grind arith

-- with values of their widths listed, what a read comes to has its register's width
listed_fits : (widths : List ℕ) (trace : List Event) (place port register width : ℕ) → All IsWidth widths → ReadsFit widths trace → slice_get widths register ≡ Some width → HasWidth (listed widths port register (slice_get trace place)) width
listed_fits widths trace place port register width wide reads r = at (slice_get trace place) refl
  where
    zero : HasWidth (zero_at (slice_index_or widths register 0)) width
    zero =
        let is = found_holds IsWidth widths register width wide r in
        let w : slice_index_or widths register 0 ≡ width = get_or_from_slice_get widths register width 0 r in
        subst (λ (n : ℕ). HasWidth (zero_at n) width) (sym w) (record { some_bit = is.0; no_wider = is.1; in_range = pow_pos width }, refl)

    chosen : (e : Event) → ReadFits widths e → (b : Bool) → is_read port register e ≡ b → HasWidth (if b then e.value else zero_at (slice_index_or widths register 0)) width
    chosen e fit true h =
        let parts = is_read_parts port register e h in
        let mine = fit parts.0 in
        let same : mine.0 ≡ width = found-same widths register mine.0 width (subst (λ (n : ℕ). slice_get widths n ≡ Some mine.0) parts.1 mine.1) r in
        subst (HasWidth e.value) same mine.2
    chosen e fit false h = zero

    at : (found : Option Event) → slice_get trace place ≡ found → HasWidth (listed widths port register found) width
    at None is = zero
    at (Some e) is = chosen e (found_holds (ReadFits widths) trace place e reads is) (is_read port register e) refl

-- ---- the ports whose reads a list answers

-- they keep events fitting
pub PortsFit-trace : (widths : List ℕ) (trace : List Event) → All IsWidth widths → ReadsFit widths trace → PortsFit widths (trace_ports widths trace)
PortsFit-trace widths trace wide reads = record { read = read; write = write_fits }
  where
    read : (port register width : ℕ) (events : List Event) → IsPort port → slice_get widths register ≡ Some width → EventsFit widths events → ProgressFits widths width ((trace_ports widths trace).read port register events)
    read port register width events at_port r e =
        let value = listed_fits widths trace (length events) port register width wide reads r in
        (EventsFit-append widths events _ e (record { port = at_port; value = (width, r, value) }, tt), ValueFits-bits width _ value)

    chosen : (port register width : ℕ) (value : BitVector) (refused : Bool) (events : List Event) → IsPort port → slice_get widths register ≡ Some width → HasWidth value width → EventsFit widths events
        → let w : Access = write_at port register in
        let p : Progress BitVector Stopped = if refused then record { events = events; ending = Stop (Refused w) } else record { events = events ++ record { access = w; value = value } ∷ []; ending = Value unit } in
        ProgressFits widths 0 p
    chosen port register width value true events at_port r h e = (e, tt)
    chosen port register width value false events at_port r h e =
        (EventsFit-append widths events _ e (record { port = at_port; value = (width, r, h) }, tt), ValueFits-unit)

    write_fits : (port register width : ℕ) (value : BitVector) (events : List Event) → IsPort port → slice_get widths register ≡ Some width → HasWidth value width → EventsFit widths events → ProgressFits widths 0 ((trace_ports widths trace).write port register value events)
    write_fits port register width value events at_port r h e = chosen port register width value (is_refused events (write_at port register)) events at_port r h e

-- what a rule gives where a list answers its reads fits
pub retrace_fits : (design : Parts) → IsValid design → (inputs : List BitVector) → HaveWidths (input_widths design) inputs → (trace : List Event) → ReadsFit (register_widths design) trace → (rule : ℕ)
    → EventsFit (register_widths design) (retrace (environment design inputs) (register_widths design) trace (slice_get design.rules rule)).events
retrace_fits design valid inputs i trace reads rule = of_rule (slice_get design.rules rule) refl
  where
    fits : EnvironmentFits (declarations design) (environment design inputs)
    fits = environment_fits design valid inputs i

    of_rule : (found : Option Rule) → slice_get design.rules rule ≡ found → EventsFit (register_widths design) (retrace (environment design inputs) (register_widths design) trace found).events
    of_rule None h = tt
    of_rule (Some found) h =
        (evaluate_fits (declarations design) (environment design inputs) (trace_ports (register_widths design) trace) fits
        (PortsFit-trace (register_widths design) trace fits.registers reads) found.body [] [] 0 (body_typed design valid rule found h) HaveWidths-empty [] tt).0

-- ---- a rule alone

-- the event behind these, where the list goes on with it
pub next_of : (list events : List Event) (e : Event) → Continues (events ++ e ∷ []) list → slice_get list (length events) ≡ Some e
next_of list events e (more, is) = ap (λ (es : List Event). slice_get es (length events)) (is ∙ append_assoc events (e ∷ []) more) ∙ behind events
  where
    behind : (before : List Event) → slice_get (before ++ e ∷ more) (length before) ≡ Some e
    behind [] = refl
    behind (x ∷ before) = behind before

-- within the events that it gives, a rule alone reads what they list
alone_along : (widths : List ℕ) (regs : List BitVector) (list : List Event) → AgreeAlong list (alone_ports regs) (trace_ports widths list)
alone_along widths regs list = record {
  appends_read = (PortsAppend-alone regs).read;
  appends_write = (PortsAppend-alone regs).write;
  read = λ port register events within.
      let value = seen port register events (slice_index_or regs register unit) in
      let e : Event = record { access = read_at port register; value = value } in
      let same : value ≡ listed widths port register (slice_get list (length events)) =
      sym (ap (listed widths port register) (next_of list events e within) ∙ listed-own widths port register value) in
      ap (λ (v : BitVector). let p : Progress BitVector Stopped = record { events = events ++ record { access = read_at port register; value = v } ∷ []; ending = Value v } in p) same;
  write = λ port register value events within. refl;
  abort = refl;
}

-- it is a trace of itself
pub alone_is_trace : (design : Parts) (rule : ℕ) (inputs regs : List BitVector) → EventsFit (register_widths design) ((system_of design).alone rule inputs regs).events → IsTrace design rule inputs ((system_of design).alone rule inputs regs)
alone_is_trace design rule inputs regs fits = record { gives = of_rule (slice_get design.rules rule); reads = read_by _ (All-from_recursion (EventFits (register_widths design)) _ fits) }
  where
    env : Environment
    env = environment design inputs

    widths : List ℕ
    widths = register_widths design

    of_rule : (found : Option Rule) → retrace env widths (alone_if env regs found).events found ≡ alone_if env regs found
    of_rule None = refl
    of_rule (Some found) =
        let list = (evaluate env (alone_ports regs) found.body [] []).events in
        let same = same_along env list (alone_ports regs) (trace_ports widths list) (alone_along widths regs list) found.body ([], sym (append-nil list)) in
        ap (λ (p : Progress BitVector Stopped). let run : Alone = record { events = p.events; outcome = outcome_of p.ending } in run) (sym same)

    read_by : (events : List Event) → All (EventFits widths) events → ReadsFit widths events
    read_by events all k d inside = λ _. (all k d inside).value

-- ---- attempts

-- what a rule of a design gives alone, on parts that fit it, makes an attempt
pub attempt_of_alone : (kept : core.Externs) (job design : Parts) (cycle rule : ℕ) (given inputs regs : List BitVector) (run : Alone) → FitDesign job kept rule given regs → design ≡ job → inputs ≡ given
    → run ≡ (system_of job).alone rule given regs → EventsFit (register_widths job) run.events
    → IsAttempt (record { design = design; cycle = cycle; rule = rule; inputs = inputs; run = run })
attempt_of_alone kept job design cycle rule given inputs regs run fits d i r e =
    subst (λ (x : Parts). IsAttempt (record { design = x; cycle = cycle; rule = rule; inputs = inputs; run = run })) (sym d)
    (subst (λ (x : List BitVector). IsAttempt (record { design = job; cycle = cycle; rule = rule; inputs = x; run = run })) (sym i)
    (record {
      rule = fits.rule;
      inputs = fits.inputs;
      trace = subst (λ (x : Alone). IsTrace job rule given x) (sym r) (alone_is_trace job rule given regs (subst (λ (x : Alone). EventsFit (register_widths job) x.events) r e));
      events = e;
    }))
