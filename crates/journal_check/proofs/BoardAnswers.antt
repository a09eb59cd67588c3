-- What the board of a design answers, whose names are its own, fits the design; and so do the entries of its histories.
use Rattle.std.proofs.Common.{◌≡◌, ◌≢◌, ◌+◌, ◌<◌, ◌≤◌, ℕ, Bool, true, false, List, [], ◌∷◌, ◌++◌, length, map, Option, Some, None, refl, sym, ap, subst, ◌∙◌, arith, eqb-true}
use Rattle.std.specs.Prelude.{◌==◌, ◌&&◌, ◌||◌, nat_lt, slice_get, unwrap_or, if◌then◌else◌, IfSome}
use Rattle.std.specs.List.{AllByRecursion}
use Rattle.std.proofs.lemmas.Bool.{and_parts, false≢true, leb-true, ltb-false, ltb-true}
use Rattle.std.proofs.lemmas.List.{length-map}
use Rattle.std.proofs.lemmas.Option.{slice_get_within}
use Rattle.kw_bits.specs.BitVector.{BitVector}
use Rattle.kw_bits.specs.Laws.{HasWidth}
use Rattle.typed_core.specs.Alone.{is_refused, outcome_of}
use Rattle.typed_core.specs.Clash.{clashes, ports_clash}
use Rattle.typed_core.specs.Evaluation.{bind, evaluate, Ending, Environment, Evaluation, Progress, Stop, Value, unit}
use Rattle.typed_core.specs.Fits.{EventFits, EventsFit}
use Rattle.typed_core.specs.Laws.{read_at, write_at}
use Rattle.typed_core.specs.Valid.{AreNodes, IsPort}
use Rattle.typed_core.specs.Widths.{HaveWidths, register_widths}
use Rattle.typed_core.specs.declared.access.Access.{Access}
use Rattle.typed_core.specs.declared.access.Event.{Event}
use Rattle.typed_core.specs.declared.action.Action.{Action}
use Rattle.typed_core.specs.declared.design.Next.{Next}
use Rattle.typed_core.specs.declared.design.Node.{Node}
use Rattle.typed_core.specs.declared.design.Parts.{Parts}
use Rattle.typed_core.specs.declared.design.RegDecl.{RegDecl}
use Rattle.typed_core.specs.declared.design.Rule.{Rule}
use Rattle.typed_core.specs.declared.outcome.Alone.{Alone}
use Rattle.typed_core.specs.declared.outcome.Outcome.{Outcome}
use Rattle.typed_core.specs.declared.outcome.Outcome.TheVariants as ends
use Rattle.typed_core.specs.declared.outcome.Stopped.{Stopped}
use Rattle.typed_core.specs.declared.outcome.Stopped.TheVariants as stopped
use Rattle.typed_core.proofs.Events.{EventsFit-append, after_fits, seen_fits}
use Rattle.typed_core.proofs.Readings.{Relates, evaluate_related}
use Rattle.one_rule.specs.Cycle.{environment, join}
use Rattle.one_rule.specs.Run.{last_registers}
use Rattle.one_rule.specs.Walk.{Walk}
use Rattle.one_rule.specs.declared.cycle.Fired.{Fired}
use Rattle.one_rule.specs.declared.cycle.State.{State}
use Rattle.one_rule.specs.declared.rows.Row.{Row}
use Rattle.attempt_log.specs.Attempt.{Attempted}
use Rattle.attempt_log.specs.Setting.{at_design}
use Rattle.attempt_log.specs.Trace.{IsTrace, retrace, trace_ports}
use Rattle.attempt_log.specs.Verdict.{answer_now, at_end, clash, clash_or, decision, first_clash, named_first, is_same, kind_before, staleness, verdict, verdict_from}
use Rattle.attempt_log.specs.declared.cause.Cause.{Cause}
use Rattle.attempt_log.specs.declared.cause.StaleRead.{StaleRead}
use Rattle.attempt_log.specs.declared.cause.Verdict.{Verdict}
use Rattle.attempt_log.specs.declared.cause.Verdict.TheVariants.{Commit, Skip, Stale}
use Rattle.attempt_log.specs.declared.entry.Entry.{Entry}
use Rattle.attempt_log.specs.declared.entry.Entry.TheVariants as entry
use Rattle.attempt_log.specs.declared.entry.Settled.{Settled}
use Rattle.attempt_log.specs.declared.entry.Settled.TheVariants as settled
use Rattle.attempt_log.specs.declared.entry.Submitted.TheVariants as submitted
use Rattle.attempt_log.proofs.Commits.{stale_reads_differ}
use Rattle.board_core.specs.Board.{Board, Opening, BoardStep, closed, dropped, head, is_ahead, is_late, judged, node_at, opened, row_of, run_events, settle, settle_at, settle_with, settled_by, stands, stays, step, stored, submit}
use Rattle.board_core.specs.History as history
use Rattle.board_core.specs.History.{IsLegal, SubmitsFor, event_of, events_of, told_by, told_of}
use Rattle.board_core.specs.declared.event.BoardAnswer.{BoardAnswer}
use Rattle.board_core.specs.declared.event.BoardAnswer.TheVariants as answer
use Rattle.board_core.specs.declared.kept.TheConstants.{MAX_CYCLES}
use Rattle.board_core.proofs.Positions.{at_node}
use Rattle.journal_check.specs.Checking.{left_by}
use Rattle.journal_check.specs.Fitting as fitting
use Rattle.journal_check.specs.Fitting.{AccessFits, CauseFits, EntryFits, IsRegister, IsRule, IsSmall, OutcomeFits, SettledFits, RegisterValueFits}

-- ---- what stops a rule

-- a write that the events refuse
abbrev IsRefusal : List Event → Ending BitVector Stopped → Type 0
IsRefusal events (Value value) = Unit {0}
IsRefusal events (Stop stopped.Abort) = Unit {0}
IsRefusal events (Stop (stopped.Refused access)) = is_refused events access ≡ true

bind_refusal : (events : List Event) (ending : Ending BitVector Stopped) (next : BitVector → Evaluation BitVector Stopped) → IsRefusal events ending → ((value : BitVector) (es : List Event) → IsRefusal (next value es).events (next value es).ending)
    → IsRefusal (bind events ending next).events (bind events ending next).ending
bind_refusal events (Value value) next h k = k value events
bind_refusal events (Stop cause) next h k = h

write_refusal : (port register : ℕ) (value : BitVector) (events : List Event) (refused : Bool) → is_refused events (write_at port register) ≡ refused
    → let w : Access = write_at port register in
    let p : Progress BitVector Stopped = if refused then record { events = events; ending = Stop (stopped.Refused w) } else record { events = events ++ record { access = w; value = value } ∷ []; ending = Value unit } in
    IsRefusal p.events p.ending
write_refusal port register value events true is = is
write_refusal port register value events false is = tt

module _ (widths : List ℕ) (trace : List Event) where
  abbrev Refuses : List Event → Progress BitVector Stopped → Progress BitVector Stopped → Type 0
  Refuses before p q = IsRefusal p.events p.ending

  relates : Relates (trace_ports widths trace) (trace_ports widths trace) Refuses
  relates = record {
    value = λ events value. tt;
    bind = λ events p q f g h k. bind_refusal p.events p.ending f h k;
    read = λ port register events. tt;
    write = λ port register value events. write_refusal port register value events (is_refused events (write_at port register)) refl;
    abort = λ events. tt;
  }

  -- of an action whose reads a list answers
  refusal : (env : Environment) (body : Action) → let p = evaluate env (trace_ports widths trace) body [] [] in IsRefusal p.events p.ending
  refusal env body = evaluate_related env (trace_ports widths trace) (trace_ports widths trace) Refuses relates body [] []

-- a clash is at a port that isn't above the other
ports_order : (v w : Bool) (i j : ℕ) → ports_clash v i w j ≡ true → i ≤ j
ports_order false false i j h = absurd (false≢true h)
ports_order false true i j h = leb-true i j h
ports_order true false i j h = omega (arith, ltb-true i j h)
ports_order true true i j h = leb-true i j h

-- the access is at a port of a register
abbrev IsAt : List ℕ → Access → Type 0
IsAt widths access = IsPort access.port × ((width : ℕ) × (slice_get widths access.register ≡ Some width))

-- so is what fitting events refuse
refused_at : (widths : List ℕ) (access : Access) (events : List Event) → EventsFit widths events → is_refused events access ≡ true → IsAt widths access
refused_at widths access [] all h = absurd (false≢true h)
refused_at widths access (e ∷ events) all h = of (clashes access e.access) refl h (refused_at widths access events all.1)
  where
    of : (c : Bool) → clashes access e.access ≡ c → (c || is_refused events access) ≡ true → (is_refused events access ≡ true → IsAt widths access) → IsAt widths access
    of true is h rest =
        let parts = and_parts (access.register == e.access.register) (ports_clash access.write access.port e.access.write e.access.port) is in
        let same : access.register ≡ e.access.register = eqb-true access.register e.access.register parts.0 in
        let up = ports_order access.write e.access.write access.port e.access.port parts.1 in
        (omega (arith, up, all.0.port), (all.0.value.0, ap (slice_get widths) same ∙ all.0.value.1))
    of false is h rest = rest h

-- ---- a design whose names are its own

-- each name is first that of the thing that has it
pub record HasOwnNames (design : Parts) : Type 0 where
  pub registers : (number : ℕ) → number < length design.regs → IsRegister design number
  pub rules : (number : ℕ) → number < length design.rules → IsRule design number

-- a rule that fired is one of the design's, and its events fit
record FiredFits (design : Parts) (f : Fired) : Type 0 where
  rule : f.rule < length design.rules
  events : EventsFit (register_widths design) f.events

-- a stale read fits, but that its values differ
record ReadFits (design : Parts) (read : StaleRead) : Type 0 where
  port : IsPort read.port
  held : RegisterValueFits design read.register read.held
  now_value : RegisterValueFits design read.register read.now

abbrev VerdictFits : Parts → Verdict → Type 0
VerdictFits design Commit = Unit {0}
VerdictFits design (Skip why) = CauseFits design why
VerdictFits design (Stale read) = ReadFits design read

module _ (design : Parts) (names : HasOwnNames design) where
  abbrev widths : List ℕ
  widths = register_widths design

  register_own : (register width : ℕ) → slice_get widths register ≡ Some width → IsRegister design register
  register_own register width is =
      names.registers register (subst (λ (n : ℕ). register < n) (length-map design.regs (λ (decl : RegDecl). decl.width)) (slice_get_within widths register width is))

  access_fits : (a : Access) (width : ℕ) → IsPort a.port → slice_get widths a.register ≡ Some width → AccessFits design a
  access_fits a width port is = record { port = port; register = register_own a.register width is }

  event_fits : (e : Event) → EventFits widths e → fitting.RegisterEventFits design e
  event_fits e fits = record { access = access_fits e.access fits.value.0 fits.port fits.value.1; value = fits.value }

  events_fit : (events : List Event) → EventsFit widths events → AllByRecursion (fitting.RegisterEventFits design) events
  events_fit [] all = tt
  events_fit (e ∷ events) all = (event_fits e all.0, events_fit events all.1)

  -- ---- outcomes

  ending_fits : (events : List Event) (ending : Ending BitVector Stopped) → EventsFit widths events → IsRefusal events ending → OutcomeFits design (outcome_of ending)
  ending_fits events (Value value) all h = tt
  ending_fits events (Stop stopped.Abort) all h = tt
  ending_fits events (Stop (stopped.Refused access)) all h = let at = refused_at widths access events all h in access_fits access at.1.0 at.0 at.1.1

  retrace_fits : (inputs : List BitVector) (trace : List Event) (found : Option Rule) → let run = retrace (environment design inputs) widths trace found in EventsFit widths run.events → OutcomeFits design run.outcome
  retrace_fits inputs trace None all = tt
  retrace_fits inputs trace (Some rule) all =
      let p = evaluate (environment design inputs) (trace_ports widths trace) rule.body [] [] in
      ending_fits p.events p.ending all (refusal widths trace (environment design inputs) rule.body)

  outcome_fits : (rule : ℕ) (inputs : List BitVector) (run : Alone) → IsTrace design rule inputs run → EventsFit widths run.events → OutcomeFits design run.outcome
  outcome_fits rule inputs run trace all =
      subst (λ (r : Alone). OutcomeFits design r.outcome) trace.gives
      (retrace_fits inputs run.events (slice_get design.rules rule) (subst (λ (r : Alone). EventsFit widths r.events) (sym trace.gives) all))

  -- ---- verdicts

  first_fits : (a : Access) (found : Option Access) → AccessFits design a → IfSome found (AccessFits design) → AccessFits design (named_first a found)
  first_fits a None one rest = one
  first_fits a (Some b) one rest = of (kind_before b.write b.port a.write a.port)
    where
      of : (c : Bool) → AccessFits design (if c then b else a)
      of true = rest
      of false = one

  first_clash_fits : (access : Access) (events : List Event) → EventsFit widths events → IfSome (first_clash access events) (AccessFits design)
  first_clash_fits access [] all = tt
  first_clash_fits access (e ∷ events) all = of (clashes access e.access) (first_clash_fits access events all.1)
    where
      of : (c : Bool) → IfSome (first_clash access events) (AccessFits design) → IfSome (if c then Some (named_first e.access (first_clash access events)) else first_clash access events) (AccessFits design)
      of true rest = first_fits e.access (first_clash access events) (event_fits e all.0).access rest
      of false rest = rest

  clash_or_fits : (access : Access) (rule : ℕ) (found : Option Access) (next : Option Cause) → AccessFits design access → IsRule design rule → IfSome found (AccessFits design) → IfSome next (CauseFits design)
      → IfSome (clash_or access rule found next) (CauseFits design)
  clash_or_fits access rule None next fits own none rest = rest
  clash_or_fits access rule (Some earlier) next fits own found rest = (fits, own, found)

  clash_fits : (access : Access) (fired : List Fired) → AccessFits design access → AllByRecursion (FiredFits design) fired → IfSome (clash access fired) (CauseFits design)
  clash_fits access [] fits all = tt
  clash_fits access (f ∷ fired) fits all =
      clash_or_fits access f.rule (first_clash access f.events) (clash access fired) fits (names.rules f.rule all.0.rule) (first_clash_fits access f.events all.0.events) (clash_fits access fired fits all.1)

  stale_fits : (now : BitVector) (e : Event) (fits : EventFits widths e) → HasWidth now fits.value.0 → IfSome (staleness now e) (ReadFits design)
  stale_fits now e fits wide = of (e.access.write || is_same e.value now)
    where
      of : (b : Bool) → let read : StaleRead = record { register = e.access.register; port = e.access.port; held = e.value; now = now } in
          let found : Option StaleRead = if b then None else Some read in
          IfSome found (ReadFits design)
      of true = tt
      of false = record { port = fits.port; held = fits.value; now_value = (fits.value.0, fits.value.1, wide) }

  decided : (found : Option Cause) (stale : Option StaleRead) (rest : Verdict) → IfSome found (CauseFits design) → IfSome stale (ReadFits design) → VerdictFits design rest → VerdictFits design (unwrap_or (decision found stale) rest)
  decided (Some why) stale rest f s r = f
  decided None (Some read) rest f s r = s
  decided None None rest f s r = r

  at_end_fits : (ending : Outcome) → OutcomeFits design ending → VerdictFits design (at_end ending)
  at_end_fits ends.Done h = tt
  at_end_fits ends.Abort h = tt
  at_end_fits (ends.OwnClash access) h = h

  verdict_fits : (regs : List BitVector) (fired : List Fired) (before events : List Event) (ending : Outcome) → HaveWidths widths regs → AllByRecursion (FiredFits design) fired → EventsFit widths before → EventsFit widths events → OutcomeFits design ending
      → VerdictFits design (verdict_from regs fired before events ending)
  verdict_fits regs fired before [] ending wide past b all h = at_end_fits ending h
  verdict_fits regs fired before (e ∷ events) ending wide past b all h =
      let width = all.0.value.0 in
      let now = seen_fits widths e.access.port e.access.register width before _ all.0.value.1 b (wide.each e.access.register width all.0.value.1) in
      decided (clash e.access fired) (staleness (answer_now regs before e.access) e) (verdict_from regs fired (before ++ e ∷ []) events ending)
      (clash_fits e.access fired (event_fits e all.0).access past) (stale_fits (answer_now regs before e.access) e all.0 now)
      (verdict_fits regs fired (before ++ e ∷ []) events ending wide past (EventsFit-append widths before (e ∷ []) b (all.0, tt)) all.1 h)

-- ---- boards

-- an entry is of a worker with at most this number, and its attempt of a cycle that a run may have
abbrev pub IsWithin : ℕ → Entry → Type 0
IsWithin workers (entry.Submit worker cycle rule inputs events ending answer) = (worker ≤ workers) × (1 ≤ cycle) × (cycle ≤ MAX_CYCLES)
IsWithin workers (entry.Settle worker answer) = worker ≤ workers

-- what a rule gave fits
record RunFits (design : Parts) (run : Alone) : Type 0 where
  events : EventsFit (register_widths design) run.events
  outcome : OutcomeFits design run.outcome

abbrev HeldFits : Parts → Attempted → Type 0
HeldFits design a = RunFits design a.run

-- the board is in the run or just past it, and its registers, the rules that fired and the attempts that stand fit
record BoardFits (o : Opening) (board : Board) : Type 0 where
  within : board.cycle ≤ o.to + 1
  registers : HaveWidths (register_widths o.design) board.walk.state.regs
  past : AllByRecursion (FiredFits o.design) board.walk.state.past
  slots : (cycle rule : ℕ) → IfSome (board.slots cycle rule) (HeldFits o.design)
  left : HaveWidths (register_widths o.design) (last_registers o.regs board.rows)

abbrev AnswerFits : Parts → BoardAnswer → Type 0
AnswerFits design (answer.Submit s) = Unit {0}
AnswerFits design (answer.Settle told) = SettledFits design told

-- the answer fits, and the board after it
record StepFits (o : Opening) (s : BoardStep) : Type 0 where
  told : AnswerFits o.design s.answer
  board : BoardFits o s.board

one_more : {X : Type 0} (P : X → Type 0) (xs : List X) (x : X) → AllByRecursion P xs → P x → AllByRecursion P (xs ++ x ∷ [])
one_more P [] x all one = (one, tt)
one_more P (y ∷ ys) x all one = (all.0, one_more P ys x all.1 one)

last_push : (regs : List BitVector) (rows : List Row) (row : Row) → last_registers regs (rows ++ row ∷ []) ≡ row.regs
last_push regs [] row = refl
last_push regs (r ∷ rows) row = last_push r.regs rows row

slot_or : (P : Attempted → Type 0) (b : Bool) (held other : Option Attempted) → IfSome held P → IfSome other P → IfSome (if b then held else other) P
slot_or P true held other h k = h
slot_or P false held other h k = k

held_is : (P : Attempted → Type 0) (held : Option Attempted) (a : Attempted) → held ≡ Some a → IfSome held P → P a
held_is P held a is h = subst (λ (o : Option Attempted). IfSome o P) is h

heads : {X : Type 0} {x y : X} {xs ys : List X} → x ∷ xs ≡ y ∷ ys → x ≡ y
heads e = cc

tails : {X : Type 0} {x y : X} {xs ys : List X} → x ∷ xs ≡ y ∷ ys → xs ≡ ys
tails e = cc

module _ (o : Opening) (nodes : AreNodes (length o.design.rules) o.design.nodes) (names : HasOwnNames o.design) (last : o.to ≤ MAX_CYCLES) where
  node_rule : (at : Next) (node : Node) → node_at o.design.nodes at ≡ Some node → node.rule < length o.design.rules
  node_rule at node is = let found = at_node o.design.nodes at node is in (nodes found.0 node found.2).rule

  small : (board : Board) → BoardFits o board → IsSmall board.cycle
  small board fits = omega (arith, fits.within, last)

  -- an attempt at a rule isn't there any more
  dropped_fits : (board : Board) → BoardFits o board → (rule : ℕ) → BoardFits o (dropped board rule)
  dropped_fits board fits rule = record {
    within = fits.within;
    registers = fits.registers;
    past = fits.past;
    slots = λ c r. slot_or (HeldFits o.design) ((c == board.cycle) && (r == rule)) None (board.slots c r) tt (fits.slots c r);
    left = fits.left;
  }

  settled_fits : (board : Board) → BoardFits o board → (rule : ℕ) (walk : Walk State) → HaveWidths (register_widths o.design) walk.state.regs → AllByRecursion (FiredFits o.design) walk.state.past → BoardFits o (settled_by board rule walk)
  settled_fits board fits rule walk wide past = record {
    within = fits.within;
    registers = wide;
    past = past;
    slots = (dropped_fits board fits rule).slots;
    left = fits.left;
  }

  judged_fits : (board : Board) → BoardFits o board → (node : Node) → node.rule < length o.design.rules → (a : Attempted) → HeldFits o.design a → (v : Verdict) → VerdictFits o.design v → ((read : StaleRead) → v ≡ Stale read → read.held ≢ read.now) → StepFits o (judged board node a v)
  judged_fits board fits node below a held Commit v differ = record {
    told = (small board fits, names.rules node.rule below);
    board =
        settled_fits board fits node.rule (record { state = join board.walk.state node.rule a.run.events; at = node.yes })
        (after_fits (register_widths o.design) a.run.events board.walk.state.regs held.events fits.registers)
        (one_more (FiredFits o.design) board.walk.state.past (record { rule = node.rule; events = a.run.events }) fits.past (record { rule = below; events = held.events }));
  }
  judged_fits board fits node below a held (Skip why) v differ = record {
    told = (small board fits, names.rules node.rule below, v);
    board = settled_fits board fits node.rule (record { state = board.walk.state; at = node.no }) fits.registers fits.past;
  }
  judged_fits board fits node below a held (Stale read) v differ = record {
    told = (
      small board fits,
      names.rules node.rule below,
      record { access = access_fits o.design names (read_at read.port read.register) v.held.0 v.port v.held.1; held = v.held; now_value = v.now_value; differ = differ read refl },
    );
    board = dropped_fits board fits node.rule;
  }

  with_fits : (board : Board) → BoardFits o board → (node : Node) → node.rule < length o.design.rules → (held : Option Attempted) → IfSome held (HeldFits o.design) → StepFits o (settle_with board node held)
  with_fits board fits node below None h = record { told = (small board fits, names.rules node.rule below); board = fits }
  with_fits board fits node below (Some a) h =
      let state = board.walk.state in
      judged_fits board fits node below a h (verdict state.regs state.past a.run) (verdict_fits o.design names state.regs state.past [] a.run.events a.run.outcome fits.registers fits.past tt h.events h.outcome)
      (stale_reads_differ state.regs state.past a.run)

  closed_fits : (board : Board) → BoardFits o board → board.cycle ≤ o.to → BoardFits o (closed o board)
  closed_fits board fits more = record {
    within = omega (arith, more);
    registers = fits.registers;
    past = tt;
    slots = λ c r. slot_or (HeldFits o.design) (c == board.cycle) None (board.slots c r) tt (fits.slots c r);
    left = subst (HaveWidths (register_widths o.design)) (sym (last_push o.regs board.rows (row_of o board))) fits.registers;
  }

  at_fits : (board : Board) → BoardFits o board → board.cycle ≤ o.to → (node : Option Node) → head o board ≡ node → StepFits o (settle_at o board node)
  at_fits board fits more None is = record { told = small board fits; board = closed_fits board fits more }
  at_fits board fits more (Some node) is = with_fits board fits node (node_rule board.walk.at node is) (board.slots board.cycle node.rule) (fits.slots board.cycle node.rule)

  settle_fits : (board : Board) → BoardFits o board → StepFits o (settle o board)
  settle_fits board fits = of (nat_lt o.to board.cycle) refl
    where
      of : (b : Bool) → nat_lt o.to board.cycle ≡ b → StepFits o (if b then stays board (answer.Settle settled.Finished) else settle_at o board (head o board))
      of true is = record { told = tt; board = fits }
      of false is = at_fits board fits (ltb-false o.to board.cycle is) (head o board) refl

  submit_fits : (board : Board) → BoardFits o board → (a : Attempted) → HeldFits o.design a → StepFits o (submit o board a)
  submit_fits board fits a held = of (is_late board a) (is_ahead o board a) (stands board a.cycle a.rule)
    where
      of : (late ahead twice : Bool)
          → StepFits o (if late then stays board (answer.Submit (submitted.Late a)) else if ahead then stays board (answer.Submit (submitted.Ahead a)) else if twice then stays board (answer.Submit (submitted.Twice a)) else record { answer = answer.Submit submitted.Stored; board = stored o board a })
      of true ahead twice = record { told = tt; board = fits }
      of false true twice = record { told = tt; board = fits }
      of false false true = record { told = tt; board = fits }
      of false false false = record {
        told = tt;
        board = record {
          within = fits.within;
          registers = fits.registers;
          past = fits.past;
          slots = λ c r. slot_or (HeldFits o.design) ((c == a.cycle) && (r == a.rule)) (Some (at_design o.design a)) (board.slots c r) held (fits.slots c r);
          left = fits.left;
        };
      }

  -- ---- entries

  told_fits : (x : BoardAnswer) (told : Settled) → history.Settle told ≡ told_of x → AnswerFits o.design x → SettledFits o.design told
  told_fits (answer.Submit s) told e fits = absurd cc
  told_fits (answer.Settle s) told e fits = let same : told ≡ s = cc in subst (SettledFits o.design) (sym same) fits

  run_fits : (rule : ℕ) (inputs : List BitVector) (run : Alone) → IsTrace o.design rule inputs run → EventsFit (register_widths o.design) run.events → RunFits o.design run
  run_fits rule inputs run trace events = record { events = events; outcome = outcome_fits o.design names rule inputs run trace events }

  module _ (workers : ℕ) where
    -- an entry fits, and the board after it
    record EntryStep (board : Board) (e : Entry) : Type 0 where
      fits : EntryFits o.design o.stimulus workers e
      after : BoardFits o (step o board (event_of o.design e)).board

    entry_fits : (board : Board) → BoardFits o board → (e : Entry) → SubmitsFor o (event_of o.design e) → told_by e ≡ told_of (step o board (event_of o.design e)).answer → IsWithin workers e → EntryStep board e
    entry_fits board fits (entry.Submit worker cycle rule inputs events ending taken) for told within =
        let run : Alone = record { events = events; outcome = ending } in
        let held = run_fits rule inputs run for.attempt.trace for.attempt.events in
        record {
          fits = (within.0, within.1, within.2, names.rules rule for.attempt.rule, for.is_for.inputs, events_fit o.design names events for.attempt.events, held.outcome);
          after = (submit_fits board fits (record { design = o.design; cycle = cycle; rule = rule; inputs = inputs; run = run }) held).board;
        }
    entry_fits board fits (entry.Settle worker told) for is within =
        let s = settle_fits board fits in
        record { fits = (within, told_fits (settle o board).answer told is s.told); after = s.board }

    -- what a history leaves
    record HistoryFits (board : Board) (entries : List Entry) : Type 0 where
      pub entries_fit : AllByRecursion (EntryFits o.design o.stimulus workers) entries
      pub after : BoardFits o (run_events o board (events_of o entries)).board

    from_board : (entries : List Entry) (board : Board) → BoardFits o board → AllByRecursion (SubmitsFor o) (events_of o entries) → map told_by entries ≡ map told_of (run_events o board (events_of o entries)).answers → AllByRecursion (IsWithin workers) entries
        → HistoryFits board entries
    from_board [] board fits for told within = record { entries_fit = tt; after = fits }
    from_board (e ∷ entries) board fits for told within =
        let one = entry_fits board fits e for.0 (heads told) within.0 in
        let rest = from_board entries (step o board (event_of o.design e)).board one.after for.1 (tails told) within.1 in
        record { entries_fit = (one.fits, rest.entries_fit); after = rest.after }

    -- the entries of a legal history fit, and so do the registers that it leaves
    pub legal_fits : (entries : List Entry) → o.from ≤ o.to → HaveWidths (register_widths o.design) o.regs → IsLegal o entries → AllByRecursion (IsWithin workers) entries
        → AllByRecursion (EntryFits o.design o.stimulus workers) entries × HaveWidths (register_widths o.design) (left_by o entries)
    legal_fits entries order wide legal within =
        let opens : BoardFits o (opened o) = record { within = omega (arith, order); registers = wide; past = tt; slots = λ c r. tt; left = wide } in
        let all = from_board entries (opened o) opens legal.attempts legal.answers within in
        (all.entries_fit, all.after.left)
