-- The events of a rule's body are at most its reads and writes.
use Rattle.std.proofs.Common.{◌≡◌, ℕ, ◌+◌, ◌^◌, ◌<◌, ◌≤◌, List, [], ◌∷◌, ◌++◌, length, length-append, sym, ap, ◌∙◌, subst, arith, true, false, Bool, Some, None, Option}
use Rattle.std.specs.Prelude.{IfOk, Ok, Err, Result, nat_eq, slice_get, if◌then◌else◌}
use Rattle.std.specs.Arc.{arc_value}
use Rattle.kw_bits.specs.declared.memory.NoMemory.{NoMemory}
use Rattle.kw_bits.specs.BitVector.{BitVector}
use Rattle.typed_core.specs.Alone.{is_refused, write}
use Rattle.typed_core.specs.Evaluation.{Ending, Value, Stop, Evaluation, Environment, Ports, bind, choose, evaluate, notes, stops, unit, ◌>>=◌}
use Rattle.typed_core.specs.Laws.{write_at}
use Rattle.typed_core.specs.Same.{SameDesign}
use Rattle.typed_core.specs.Widths.{register_widths}
use Rattle.typed_core.specs.declared.access.Event.{Event}
use Rattle.typed_core.specs.declared.action.Action.{Action}
use Rattle.typed_core.specs.declared.action.Action.TheVariants as action
use Rattle.typed_core.specs.declared.design.Parts.{Parts}
use Rattle.typed_core.specs.declared.design.Rule.{Rule}
use Rattle.typed_core.specs.declared.outcome.Alone.{Alone}
use Rattle.typed_core.specs.declared.outcome.Stopped.TheVariants.{Refused}
use Rattle.one_rule.specs.Cycle.{environment}
use Rattle.attempt_log.specs.Attempt.{Attempted}
use Rattle.attempt_log.specs.Trace.{IsTrace, read_listed, retrace, trace_ports}
use Rattle.attempt_log.specs.declared.job.JobAnswer.{JobAnswer}
use Rattle.attempt_log.specs.declared.job.JobAnswer.TheVariants as answer
use Rattle.attempt_log.specs.declared.seat.Task.{Task}
use Rattle.attempt_log.specs.Seats.{IfJob, last_task}
use Rattle.attempt_log.specs.Setting.{attempt_of, task_of}
use Rattle.attempt_log.proofs.Alike.{equal_designs_trace_alike}
use Rattle.one_rule.specs.Stimulus.{inputs_of}
use Rattle.board_core.specs.Board.{Board, Opening, setting_of}
use Rattle.board_core.specs.Candidates.{Chooses}
use Rattle.board_lock.specs.declared.room.Room.{Room}
use Rattle.board_lock.specs.inner.Rooms.{FitsTask, HasRoom, IsRoom, RoomOf, accesses, rule_accesses}

-- it adds at most this many events
abbrev Adds : {V S : Type 0} → ℕ → Evaluation V S → Type 0
Adds n f = (events : List Event) → length (f events).events ≤ n + length events

-- what goes on adds its own
bound : {V W S : Type 0} (n : ℕ) (next : V → Evaluation W S) → ((value : V) → Adds n (next value)) → (events : List Event) (ending : Ending V S) → length (bind events ending next).events ≤ n + length events
bound n next more events (Value value) = more value events
bound n next more events (Stop cause) = omega arith

one_after : {V W S : Type 0} (m n k : ℕ) (f : Evaluation V S) (next : V → Evaluation W S) → Adds m f → ((value : V) → Adds n (next value)) → m + n ≤ k → Adds k (f >>= next)
one_after m n k f next first more fit events =
    let a = first events in
    let b = bound n next more (f events).events (f events).ending in
    omega (arith, a, b, fit)

-- one arm is taken
arm : {V S : Type 0} (m n k : ℕ) (x : BitVector) (f g : Evaluation V S) → Adds m f → Adds n g → m ≤ k → n ≤ k → Adds k (choose x f g)
arm m n k x f g first second low high events = pick (nat_eq x.number 0)
  where
    pick : (b : Bool) → length ((if b then g else f) events).events ≤ k + length events
    pick true = let s = second events in omega (arith, s, high)
    pick false = let s = first events in omega (arith, s, low)

module _ {S : Type 0} (env : Environment) (ports : Ports S) (reads : (port register : ℕ) → Adds 1 (ports.read port register)) (writes : (port register : ℕ) (value : BitVector) → Adds 1 (ports.write port register value)) where
  plain : (k : ℕ) (f : Evaluation BitVector S) (next : BitVector → BitVector) → Adds k f → Adds k (f >>= λ x events. record { events = events; ending = Value (next x) })
  plain k f next first = one_after k 0 k f (λ x events. record { events = events; ending = Value (next x) }) first (λ x events. omega arith) (omega arith)

  -- the body of a rule, at ports of which a read and a write add at most one event each
  pub body_adds : (a : Action) (locals : List BitVector) → Adds (accesses a) (evaluate env ports a locals)
  body_adds action.Unit locals = λ events. omega arith
  body_adds (action.Const value) locals = λ events. omega arith
  body_adds (action.Local name) locals = λ events. omega arith
  body_adds (action.Input input) locals = λ events. omega arith
  body_adds (action.One' o p a) locals = plain (accesses a) (evaluate env ports a locals) _ (body_adds a locals)
  body_adds (action.Two' o p a q b) locals =
      one_after (accesses a) (accesses b) (accesses a + accesses b) (evaluate env ports a locals) _ (body_adds a locals) (λ x. plain (accesses b) (evaluate env ports b locals) _ (body_adds b locals)) (omega arith)
  body_adds (action.Slice' p a u l) locals = plain (accesses a) (evaluate env ports a locals) _ (body_adds a locals)
  body_adds (action.Zext' p a w) locals = plain (accesses a) (evaluate env ports a locals) _ (body_adds a locals)
  body_adds (action.Sext' p a w) locals = plain (accesses a) (evaluate env ports a locals) _ (body_adds a locals)
  body_adds (action.Table' t p a) locals = plain (accesses a) (evaluate env ports a locals) _ (body_adds a locals)
  body_adds (action.Host' t p a) locals = plain (accesses a) (evaluate env ports a locals) _ (body_adds a locals)
  body_adds (action.Let' p a q b) locals =
      one_after (accesses a) (accesses b) (accesses a + accesses b) (evaluate env ports a locals) _ (body_adds a locals) (λ x. body_adds b (x ∷ locals)) (omega arith)
  body_adds (action.If' p c q a r b) locals =
      one_after (accesses c) (accesses a + accesses b) (accesses c + accesses a + accesses b) (evaluate env ports c locals) _ (body_adds c locals)
      (λ x. arm (accesses a) (accesses b) (accesses a + accesses b) x (evaluate env ports a locals) (evaluate env ports b locals) (body_adds a locals) (body_adds b locals) (omega arith) (omega arith)) (omega arith)
  body_adds (action.Seq' p a q b) locals =
      one_after (accesses a) (accesses b) (accesses a + accesses b) (evaluate env ports a locals) _ (body_adds a locals) (λ x. body_adds b locals) (omega arith)
  body_adds (action.Read port register) locals = reads port register
  body_adds (action.Write' port register p a) locals =
      one_after (accesses a) 1 (accesses a + 1) (evaluate env ports a locals) _ (body_adds a locals) (λ x. writes port register x) (omega arith)
  body_adds action.Abort locals = λ events. omega arith

grown : (events : List Event) (e : Event) → length (events ++ e ∷ []) ≤ 1 + length events
grown events e = omega (arith, length-append events (e ∷ []))

listed_adds : (widths : List ℕ) (trace : List Event) (port register : ℕ) → Adds 1 (read_listed widths trace port register)
listed_adds widths trace port register events = grown events _

write_adds : (port register : ℕ) (value : BitVector) → Adds 1 (write port register value)
write_adds port register value events = pick (is_refused events (write_at port register))
  where
    pick : (b : Bool) → length (if b then stops (Refused (write_at port register)) events else notes (record { access = write_at port register; value = value }) unit events).events ≤ 1 + length events
    pick true = omega arith
    pick false = grown events _

-- a trace of a rule has at most as many events as the rule's body has reads and writes
pub events_few : (d : Parts) (rule : ℕ) (inputs : List BitVector) (run : Alone) → IsTrace d rule inputs run → length run.events ≤ rule_accesses (slice_get d.rules rule)
events_few d rule inputs run t = subst (λ (r : Alone). length r.events ≤ rule_accesses (slice_get d.rules rule)) t.gives (few (slice_get d.rules rule))
  where
    few : (r : Option Rule) → length (retrace (environment d inputs) (register_widths d) run.events r).events ≤ rule_accesses r
    few None = omega arith
    few (Some r) =
        let most = body_adds (environment d inputs) (trace_ports (register_widths d) run.events) (listed_adds (register_widths d) run.events) write_adds r.body [] [] in
        omega (arith, most)

-- the events of an attempt fit into the room for it
pub events_fit : (a : Attempted) (d : Parts) (r : Room) → IsTrace a.design a.rule a.inputs a.run → SameDesign a.design d → IsRoom d a.rule a.inputs r → length a.run.events < 2 ^ 64 → length r.events.items + length a.run.events ≤ r.events.capacity
events_fit a d r is same room small =
    let few = events_few d a.rule a.inputs a.run (equal_designs_trace_alike a.design d a.rule a.inputs a.run same is) in
    omega (arith, few, small, room.wide, ap length room.empty)

pub none_some : {A : Type 0} (o : Option A) (x : A) → o ≡ None → o ≡ Some x → ⊥
none_some {A} o x none some = omega (arith, ap is (sym none ∙ some))
  where
    is : Option A → ℕ
    is None = 0
    is (Some y) = 1

one_some : {A : Type 0} (o : Option A) (x y : A) → o ≡ Some x → o ≡ Some y → x ≡ y
one_some {A} o x y a b = ap inside (sym a ∙ b)
  where
    inside : Option A → A
    inside None = x
    inside (Some z) = z

-- the room of a job is for the task of the job
pub room_next : (o : Opening) (b : Board) (pick : ℕ) (r : Result JobAnswer NoMemory) (room : Option Room) (old new : Option Task) → RoomOf r room → IfOk r (Chooses o b pick) → IfOk r (λ told. new ≡ last_task old told) → FitsTask (setting_of o) new room
room_next o b pick (Err e) room old new none choice up x t some at = absurd (none_some room x none some)
room_next o b pick (Ok answer.Idle) room old new none choice up x t some at = absurd (none_some room x none some)
room_next o b pick (Ok answer.Finished) room old new none choice up x t some at = absurd (none_some room x none some)
room_next o b pick (Ok (answer.Job j)) room old new has choice up x t some at =
    let job = choice.3 in
    let task : task_of (attempt_of j) ≡ t = one_some new (task_of (attempt_of j)) t up at in
    let inputs : j.inputs ≡ inputs_of o.stimulus t.cycle = job.inputs ∙ ap (λ (n : ℕ). inputs_of o.stimulus n) (sym job.cycle ∙ ap (λ (z : Task). z.cycle) task) in
    let room_is : has.0 ≡ x = one_some room has.0 x has.1 some in
    subst (λ (z : Parts × ℕ × List BitVector × Room). IsRoom z.0 z.1 z.2 z.3) (λ i. (job.design i, (ap (λ (y : Task). y.rule) task) i, inputs i, room_is i)) has.2

-- what holds of an answer holds of it after room was taken
pub still : (P : JobAnswer → Type 0) (a r : Result JobAnswer NoMemory) → IfOk r (λ told. a ≡ Ok told) → IfOk a P → IfOk r P
still P a (Err e) same holds = tt
still P a (Ok told) same holds = subst (λ (x : Result JobAnswer NoMemory). IfOk x P) same holds

-- where a job is given, there is room for the attempt at it
pub room_told : (r : Result JobAnswer NoMemory) (room : Option Room) → RoomOf r room → IfOk r (λ told. IfJob told (λ job. HasRoom room (arc_value job.design) job.rule job.inputs))
room_told (Err e) room has = tt
room_told (Ok answer.Idle) room has = tt
room_told (Ok answer.Finished) room has = tt
room_told (Ok (answer.Job j)) room has = has
