-- Every board step keeps a plain position and the first rows of the run.
use Rattle.std.proofs.Common.{◌≡◌, ℕ, suc, ◌+◌, ◌-◌, ◌≤◌, Bool, true, false, List, [], ◌∷◌, ◌++◌, length, Option, Some, None, refl, sym, ap, ap₂, ◌∙◌, subst, eq-eqb, eqb-true, true≢false, arith}
use Rattle.std.specs.Prelude.{◌==◌, ◌&&◌, nat_lt, drop, IfSome, if◌then◌else◌}
use Rattle.std.specs.List.{AllByRecursion}
use Rattle.std.proofs.lemmas.Bool.{and_parts, ltb-false}
use Rattle.kw_bits.specs.BitVector.{BitVector}
use Rattle.typed_core.specs.declared.design.Next.TheVariants as next
use Rattle.typed_core.specs.declared.design.Node.{Node}
use Rattle.typed_core.specs.declared.design.Parts.{Parts}
use Rattle.typed_core.specs.declared.outcome.Alone.{Alone}
use Rattle.one_rule.specs.Cycle.{System, begin, cycle, fire, fires, flags, join, numbers, system_of}
use Rattle.one_rule.specs.Laws.{IsScheduled}
use Rattle.one_rule.specs.Run.{InputsByCycle, last_registers, opening, rows_after, run}
use Rattle.one_rule.specs.Stimulus.{inputs_of}
use Rattle.one_rule.specs.Walk.{Walk, goes_on, start, visit}
use Rattle.one_rule.specs.declared.cycle.State.{State}
use Rattle.one_rule.specs.declared.rows.Row.{Row}
use Rattle.one_rule.proofs.Runs.{runs_in_parts}
use Rattle.attempt_log.specs.Attempt.{Attempted}
use Rattle.attempt_log.specs.Trace.{IsTrace}
use Rattle.attempt_log.specs.Verdict.{verdict}
use Rattle.attempt_log.specs.declared.cause.Cause.{Cause}
use Rattle.attempt_log.specs.declared.cause.StaleRead.{StaleRead}
use Rattle.attempt_log.specs.declared.cause.Verdict.{Verdict}
use Rattle.attempt_log.specs.declared.cause.Verdict.TheVariants.{Commit, Skip, Stale}
use Rattle.attempt_log.specs.declared.entry.Settled.TheVariants as settled
use Rattle.attempt_log.specs.declared.entry.Submitted.TheVariants as submitted
use Rattle.attempt_log.specs.Setting.{at_design}
use Rattle.attempt_log.proofs.Alike.{attempt_at}
use Rattle.attempt_log.proofs.Commits.{commits_fire, never_stale, skips_do_not_fire}
use Rattle.board_core.specs.Board.{Board, Opening, closed, dropped, head, is_ahead, is_late, judged, node_at, opened, row_of, run_events, settle, settle_at, settle_with, stands, stays, step, stored, submit}
use Rattle.board_core.specs.History.{IsAttemptFor, SubmitsFor}
use Rattle.board_core.specs.Laws.{HeadNeverStale, HistoriesArePlain, KeepsPlain, SettlesByFiring, TellsFiring, head_attempt}
use Rattle.board_core.specs.Position.{IsOpening, IsPlain, StandsRight, position, rule_if, visit_if, visited}
use Rattle.board_core.specs.declared.event.BoardAnswer.{BoardAnswer}
use Rattle.board_core.specs.declared.event.BoardAnswer.TheVariants as answer
use Rattle.board_core.specs.declared.event.BoardEvent.{BoardEvent}
use Rattle.board_core.specs.declared.event.BoardEvent.TheVariants as event
use Rattle.board_core.proofs.Open.{closed_open, dropped_open, settled_open, stored_open}
use Rattle.board_core.proofs.Positions.{end_is_end, no_node_is_end}

-- ---- rows

last-push : (regs : List BitVector) (rows : List Row) (row : Row) → last_registers regs (rows ++ row ∷ []) ≡ row.regs
last-push regs [] row = refl
last-push regs (r ∷ rows) row = last-push r.regs rows row

-- a run with one cycle more
run_more : (system : System) (inputs : InputsByCycle) (regs : List BitVector) (from m : ℕ) → from ≤ m
    → run system inputs regs from (m + 1) ≡ run system inputs regs from m ++ cycle system (inputs (m + 1)) (last_registers regs (run system inputs regs from m)) ∷ []
run_more system inputs regs from m h =
    let first = run system inputs regs from m in
    let last = last_registers regs first in
    let one : m + 1 - m ≡ 1 = omega arith in
    runs_in_parts system inputs regs from m (m + 1) h (omega arith)
    ∙ ap (λ (n : ℕ). first ++ drop 1 (opening system.rules last ∷ rows_after system inputs n m last)) one

-- ---- rules that fire

module _ (system : System) (inputs : List BitVector) (rule : ℕ) (state : State) where
  fire_some : (run : Alone) → system.alone rule inputs state.regs ≡ run → fires state.past run ≡ true → fire system inputs rule state ≡ Some (join state rule run.events)
  fire_some run same h =
      ap (λ (r : Alone). if fires state.past r then Some (join state rule r.events) else None) same
      ∙ ap (λ (b : Bool). if b then Some (join state rule run.events) else None) h

  fire_none : fires state.past (system.alone rule inputs state.regs) ≡ false → fire system inputs rule state ≡ None
  fire_none h = ap (λ (b : Bool). if b then Some (join state rule (system.alone rule inputs state.regs).events) else None) h

-- ---- slots

kept_slot : (P : Attempted → Type 0) (b : Bool) (held : Option Attempted) → IfSome held P → IfSome (if b then None else held) P
kept_slot P true held h = tt
kept_slot P false held h = h

pub held_slot : (P : Attempted → Type 0) (held : Option Attempted) (a : Attempted) → held ≡ Some a → IfSome held P → P a
held_slot P held a is h = subst (λ (o : Option Attempted). IfSome o P) is h

same_number : (n : ℕ) → (n == n) ≡ true
same_number n = eq-eqb n n refl

-- ---- steps

-- what an answer tells of the firing of its rule
abbrev TellsAnswer : Opening → Board → BoardAnswer → Type 0
TellsAnswer o board (answer.Submit s) = Unit {0}
TellsAnswer o board (answer.Settle s) = TellsFiring o board s

module _ (o : Opening) (opening' : IsOpening o) where
  pub scheduled : IsScheduled (system_of o.design)
  scheduled = record { nodes = opening'.design.nodes; once = opening'.design.once }

  -- an attempt that stands is a trace of its rule
  trace_of : (c r : ℕ) (a : Attempted) → StandsRight o c r a → IsTrace o.design r (inputs_of o.stimulus c) a.run
  trace_of c r a s =
      let given = s.inputs ∙ ap (inputs_of o.stimulus) s.in_cycle in
      subst (λ (d : Parts). IsTrace d r (inputs_of o.stimulus c) a.run) s.design
      (subst (λ (n : ℕ). IsTrace a.design n (inputs_of o.stimulus c) a.run) s.at_rule
      (subst (λ (values : List BitVector). IsTrace a.design a.rule values a.run) given s.attempt.trace))

  closed_plain : (board : Board) → IsPlain o board → board.cycle ≤ o.to → head o board ≡ None → IsPlain o (closed o board)
  closed_plain board plain less none =
      record {
        after = omega (arith, plain.after);
        within = omega (arith, less);
        rows = more;
        visits = 0;
        walk = ap (λ (regs : List BitVector). start o.design.nodes (begin regs)) (sym (last-push o.regs board.rows (row_of o board)));
        settled = refl;
        slots = λ c r. kept_slot (StandsRight o c r) (c == board.cycle) (board.slots c r) (plain.slots c r);
        stand = closed_open o board plain.stand;
        rest = λ _. refl;
      }
    where
      last : List BitVector
      last = last_registers o.regs board.rows

      place : Walk State
      place = position (system_of o.design) (inputs_of o.stimulus board.cycle) last plain.visits

      at_end : place.at ≡ next.End
      at_end = no_node_is_end (system_of o.design) opening'.design.nodes (inputs_of o.stimulus board.cycle) last plain.visits (ap (λ (w : Walk State). node_at o.design.nodes w.at) (sym plain.walk) ∙ none)

      row : row_of o board ≡ cycle (system_of o.design) (inputs_of o.stimulus board.cycle) last
      row = ap (λ (w : Walk State). let r : Row = record { regs = w.state.regs; fired = flags (length o.design.rules) (numbers w.state.past) } in r)
          (plain.walk ∙ end_is_end (system_of o.design) opening'.design.nodes (inputs_of o.stimulus board.cycle) last plain.visits at_end)

      this : board.cycle - 1 + 1 ≡ board.cycle
      this = omega (arith, plain.after)

      more : board.rows ++ row_of o board ∷ [] ≡ run (system_of o.design) (inputs_of o.stimulus) o.regs o.from (board.cycle + 1 - 1)
      more =
          ap₂ (λ (rows : List Row) (r : Row). rows ++ r ∷ []) plain.rows (row ∙ ap₂ (λ (n : ℕ) (rows : List Row). cycle (system_of o.design) (inputs_of o.stimulus n) (last_registers o.regs rows)) (sym this) plain.rows)
          ∙ sym (run_more (system_of o.design) (inputs_of o.stimulus) o.regs o.from (board.cycle - 1) (omega (arith, plain.after)))
          ∙ ap (run (system_of o.design) (inputs_of o.stimulus) o.regs o.from) (let e : board.cycle - 1 + 1 ≡ board.cycle + 1 - 1 = omega (arith, plain.after) in e)

  -- the head's attempt is settled as its rule does
  module _ (board : Board) (plain : IsPlain o board) (less : board.cycle ≤ o.to) (node : Node) (here : head o board ≡ Some node) (a : Attempted) (right : StandsRight o board.cycle node.rule a) where
    at_node' : node_at o.design.nodes (position (system_of o.design) (inputs_of o.stimulus board.cycle) (last_registers o.regs board.rows) plain.visits).at ≡ Some node
    at_node' = ap (λ (w : Walk State). node_at o.design.nodes w.at) (sym plain.walk) ∙ here

    -- the next position
    next_position : (s : Option State) → fire (system_of o.design) (inputs_of o.stimulus board.cycle) node.rule board.walk.state ≡ s
        → goes_on node board.walk.state s ≡ position (system_of o.design) (inputs_of o.stimulus board.cycle) (last_registers o.regs board.rows) (suc plain.visits)
    next_position s is =
        let f = fire (system_of o.design) (inputs_of o.stimulus board.cycle) in
        sym (ap (visit_if f (position (system_of o.design) (inputs_of o.stimulus board.cycle) (last_registers o.regs board.rows) plain.visits)) at_node'
        ∙ ap (visit f node) (sym plain.walk) ∙ ap (goes_on node board.walk.state) is)

    settled_more : board.settled ++ node.rule ∷ [] ≡ visited (system_of o.design) (inputs_of o.stimulus board.cycle) (last_registers o.regs board.rows) (suc plain.visits)
    settled_more = ap₂ (λ (rules : List ℕ) (n : Option Node). rules ++ rule_if n) plain.settled (sym at_node')

    moved : (walk : Walk State) → walk ≡ position (system_of o.design) (inputs_of o.stimulus board.cycle) (last_registers o.regs board.rows) (suc plain.visits)
        → IsPlain o (record { cycle = board.cycle; walk = walk; settled = board.settled ++ node.rule ∷ []; rows = board.rows; slots = (dropped board node.rule).slots })
    moved walk same =
        record {
          after = plain.after;
          within = plain.within;
          rows = plain.rows;
          visits = suc plain.visits;
          walk = same;
          settled = settled_more;
          slots = λ c r. kept_slot (StandsRight o c r) ((c == board.cycle) && (r == node.rule)) (board.slots c r) (plain.slots c r);
          stand = settled_open o board plain.stand node.rule walk;
          rest = λ past. absurd (omega (arith, less, past));
        }

    commit_fires : verdict board.walk.state.regs board.walk.state.past a.run ≡ Commit
        → ((system_of o.design).alone node.rule (inputs_of o.stimulus board.cycle) board.walk.state.regs ≡ a.run) × (fires board.walk.state.past a.run ≡ true)
    commit_fires v =
        commits_fire o.design node.rule (inputs_of o.stimulus board.cycle) board.walk.state.regs board.walk.state.past a.run (trace_of board.cycle node.rule a right) v

    skip_fires_not : (cause : Cause) → verdict board.walk.state.regs board.walk.state.past a.run ≡ Skip cause
        → fires board.walk.state.past ((system_of o.design).alone node.rule (inputs_of o.stimulus board.cycle) board.walk.state.regs) ≡ false
    skip_fires_not cause v =
        skips_do_not_fire o.design node.rule (inputs_of o.stimulus board.cycle) board.walk.state.regs board.walk.state.past a.run cause (trace_of board.cycle node.rule a right) v

    judged_plain : (v : Verdict) → verdict board.walk.state.regs board.walk.state.past a.run ≡ v → IsPlain o (judged board node a v).board
    judged_plain Commit v =
        let told = commit_fires v in
        let w : Walk State = record { state = join board.walk.state node.rule a.run.events; at = node.yes } in
        moved w (next_position (Some (join board.walk.state node.rule a.run.events)) (fire_some (system_of o.design) (inputs_of o.stimulus board.cycle) node.rule board.walk.state a.run told.0 told.1))
    judged_plain (Skip cause) v =
        let w : Walk State = record { state = board.walk.state; at = node.no } in
        moved w (next_position None (fire_none (system_of o.design) (inputs_of o.stimulus board.cycle) node.rule board.walk.state (skip_fires_not cause v)))
    judged_plain (Stale read) v =
        record {
          after = plain.after;
          within = plain.within;
          rows = plain.rows;
          visits = plain.visits;
          walk = plain.walk;
          settled = plain.settled;
          slots = λ c r. kept_slot (StandsRight o c r) ((c == board.cycle) && (r == node.rule)) (board.slots c r) (plain.slots c r);
          stand = dropped_open o board plain.stand node.rule;
          rest = plain.rest;
        }

    -- what the answer tells of the rule
    judged_tells : (v : Verdict) → verdict board.walk.state.regs board.walk.state.past a.run ≡ v → TellsAnswer o board (judged board node a v).answer
    judged_tells Commit v =
        let told = commit_fires v in
        (refl, ap (fires board.walk.state.past) told.0 ∙ told.1)
    judged_tells (Skip cause) v = (refl, skip_fires_not cause v)
    judged_tells (Stale read) v = tt

  -- the head is settled
  module _ (board : Board) (plain : IsPlain o board) (less : board.cycle ≤ o.to) (node : Node) (here : head o board ≡ Some node) where
    settled_with : (held : Option Attempted) → board.slots board.cycle node.rule ≡ held → IsPlain o (settle_with board node held).board × TellsAnswer o board (settle_with board node held).answer
    settled_with None is = (plain, tt)
    settled_with (Some a) is =
        let right = held_slot (StandsRight o board.cycle node.rule) (board.slots board.cycle node.rule) a is (plain.slots board.cycle node.rule) in
        let v = verdict board.walk.state.regs board.walk.state.past a.run in
        (judged_plain board plain less node here a right v refl, judged_tells board plain less node here a right v refl)

  settled_at : (board : Board) → IsPlain o board → board.cycle ≤ o.to → (n : Option Node) → head o board ≡ n → IsPlain o (settle_at o board n).board × TellsAnswer o board (settle_at o board n).answer
  settled_at board plain less None is = (closed_plain board plain less is, tt)
  settled_at board plain less (Some node) is = settled_with board plain less node is (board.slots board.cycle node.rule) refl

  settled_so : (board : Board) → IsPlain o board → IsPlain o (settle o board).board × TellsAnswer o board (settle o board).answer
  settled_so board plain = chosen (nat_lt o.to board.cycle) refl
    where
      chosen : (b : Bool) → nat_lt o.to board.cycle ≡ b → IsPlain o (if b then stays board (answer.Settle settled.Finished) else settle_at o board (head o board)).board × TellsAnswer o board (if b then stays board (answer.Settle settled.Finished) else settle_at o board (head o board)).answer
      chosen true h = (plain, tt)
      chosen false h = settled_at board plain (ltb-false o.to board.cycle h) (head o board) refl

  -- settling keeps a plain position
  pub settle_plain : (board : Board) → IsPlain o board → IsPlain o (settle o board).board
  settle_plain board plain = (settled_so board plain).0

  -- and tells which rule fires
  pub settle_tells : (board : Board) → IsPlain o board → TellsAnswer o board (settle o board).answer
  settle_tells board plain = (settled_so board plain).1

  stored_slot : (b : Bool) (c r : ℕ) (a : Attempted) (held : Option Attempted) → (b ≡ true → (a.cycle ≡ c) × (a.rule ≡ r)) → IsAttemptFor o a → IfSome held (StandsRight o c r)
      → IfSome (if b then Some (at_design o.design a) else held) (StandsRight o c r)
  stored_slot true c r a held same for h =
      let e = same refl in
      record { attempt = attempt_at a o.design for.is_for.design for.attempt; design = refl; inputs = for.is_for.inputs; in_cycle = e.0; at_rule = e.1 }
  stored_slot false c r a held same for h = h

  pub stored_plain : (board : Board) (a : Attempted) → IsAttemptFor o a → is_late board a ≡ false → is_ahead o board a ≡ false → IsPlain o board → IsPlain o (stored o board a)
  stored_plain board a for late ahead plain =
      record {
        after = plain.after;
        within = plain.within;
        rows = plain.rows;
        visits = plain.visits;
        walk = plain.walk;
        settled = plain.settled;
        slots = λ c r. stored_slot ((c == a.cycle) && (r == a.rule)) c r a (board.slots c r) (same c r) for (plain.slots c r);
        stand = stored_open o board plain.stand a late ahead;
        rest = plain.rest;
      }
    where
      same : (c r : ℕ) → ((c == a.cycle) && (r == a.rule)) ≡ true → (a.cycle ≡ c) × (a.rule ≡ r)
      same c r h = let parts = and_parts (c == a.cycle) (r == a.rule) h in (sym (eqb-true c a.cycle parts.0), sym (eqb-true r a.rule parts.1))

  -- and so does an attempt that comes
  pub submit_plain : (board : Board) (a : Attempted) → IsAttemptFor o a → IsPlain o board → IsPlain o (submit o board a).board
  submit_plain board a for plain = chosen (is_late board a) (is_ahead o board a) (stands board a.cycle a.rule) refl refl
    where
      chosen : (late ahead twice : Bool) → is_late board a ≡ late → is_ahead o board a ≡ ahead
          → IsPlain o (if late then stays board (answer.Submit (submitted.Late a)) else if ahead then stays board (answer.Submit (submitted.Ahead a)) else if twice then stays board (answer.Submit (submitted.Twice a)) else record { answer = answer.Submit submitted.Stored; board = stored o board a }).board
      chosen true ahead twice e f = plain
      chosen false true twice e f = plain
      chosen false false true e f = plain
      chosen false false false e f = stored_plain board a for e f plain

  pub step_plain : (board : Board) (e : BoardEvent) → SubmitsFor o e → IsPlain o board → IsPlain o (step o board e).board
  step_plain board (event.Submit a) for plain = submit_plain board a for plain
  step_plain board event.Settle for plain = settle_plain board plain

  -- a board opens at the first plain position
  pub opened_plain : IsPlain o (opened o)
  opened_plain =
      record {
        after = omega arith;
        within = omega (arith, opening'.order);
        rows = ap (λ (n : ℕ). opening (length o.design.rules) o.regs ∷ rows_after (system_of o.design) (inputs_of o.stimulus) n o.from o.regs) (let none : 0 ≡ o.from + 1 - 1 - o.from = omega arith in none);
        visits = 0;
        walk = refl;
        settled = refl;
        slots = λ c r. tt;
        stand = λ c r h. absurd (true≢false (sym h));
        rest = λ _. refl;
      }

  run_plain : (board : Board) (events : List BoardEvent) → AllByRecursion (SubmitsFor o) events → IsPlain o board → IsPlain o (run_events o board events).board
  run_plain board [] all plain = plain
  run_plain board (e ∷ events) all plain = run_plain (step o board e).board events all.1 (step_plain board e all.0 plain)

-- ---- laws

pub keeps_plain : KeepsPlain
keeps_plain o events opening' all = run_plain o opening' (opened o) events all (opened_plain o opening')

pub histories_are_plain : HistoriesArePlain
histories_are_plain o entries opening' legal = keeps_plain o _ opening' legal.attempts

pub settles_by_firing : SettlesByFiring
settles_by_firing o board told opening' plain is = subst (TellsAnswer o board) is (settle_tells o opening' board plain)

-- the answer isn't that a read is stale
abbrev IsFresh : BoardAnswer → Type 0
IsFresh (answer.Submit s) = Unit {0}
IsFresh (answer.Settle (settled.Committed cycle rule)) = Unit {0}
IsFresh (answer.Settle (settled.Skipped cycle rule cause)) = Unit {0}
IsFresh (answer.Settle (settled.Stale cycle rule read)) = ⊥
IsFresh (answer.Settle (settled.CycleClosed cycle)) = Unit {0}
IsFresh (answer.Settle (settled.Waiting cycle rule)) = Unit {0}
IsFresh (answer.Settle settled.Finished) = Unit {0}

judged_fresh : (board : Board) (node : Node) (a : Attempted) (v : Verdict) → ((read : StaleRead) → v ≡ Stale read → ⊥) → IsFresh (judged board node a v).answer
judged_fresh board node a Commit h = tt
judged_fresh board node a (Skip cause) h = tt
judged_fresh board node a (Stale read) h = h read refl

-- where no attempt stands for the head, or one that isn't stale, the answer is fresh
settled_fresh : (o : Opening) (board : Board) (node : Node) (held : Option Attempted) → head o board ≡ Some node → board.slots board.cycle node.rule ≡ held
    → IfSome held (λ (a : Attempted). (read : StaleRead) → verdict board.walk.state.regs board.walk.state.past a.run ≡ Stale read → ⊥) → IsFresh (settle o board).answer
settled_fresh o board node held here is fresh = chosen (nat_lt o.to board.cycle)
  where
    with_held : (held : Option Attempted) → IfSome held (λ (a : Attempted). (read : StaleRead) → verdict board.walk.state.regs board.walk.state.past a.run ≡ Stale read → ⊥) → IsFresh (settle_with board node held).answer
    with_held None fresh = tt
    with_held (Some a) fresh = judged_fresh board node a (verdict board.walk.state.regs board.walk.state.past a.run) fresh

    chosen : (b : Bool) → IsFresh (if b then stays board (answer.Settle settled.Finished) else settle_at o board (head o board)).answer
    chosen true = tt
    chosen false =
        subst (λ (n : Option Node). IsFresh (settle_at o board n).answer) (sym here)
        (subst (λ (h : Option Attempted). IsFresh (settle_with board node h).answer) (sym is) (with_held held fresh))

pub head_never_stale : HeadNeverStale
head_never_stale o board node in_cycle rule read opening' plain here none is =
    subst IsFresh is (chosen (is_late board a) (is_ahead o board a) (stands board a.cycle a.rule))
  where
    a : Attempted
    a = head_attempt o board node

    first : IsFresh (settle o board).answer
    first = settled_fresh o board node None here none tt

    both : (n m : ℕ) → ((n == n) && (m == m)) ≡ true
    both n m = ap₂ (λ (a b : Bool). a && b) (same_number n) (same_number m)

    next_answer : IsFresh (settle o (stored o board a)).answer
    next_answer =
        settled_fresh o (stored o board a) node (Some a) here (ap (λ (b : Bool). if b then Some a else board.slots board.cycle node.rule) (both board.cycle node.rule))
        (λ read v. never_stale o.design node.rule (inputs_of o.stimulus board.cycle) board.walk.state.regs board.walk.state.past read v)

    chosen : (late ahead twice : Bool) → IsFresh (settle o (if late then stays board (answer.Submit (submitted.Late a)) else if ahead then stays board (answer.Submit (submitted.Ahead a)) else if twice then stays board (answer.Submit (submitted.Twice a)) else record { answer = answer.Submit submitted.Stored; board = stored o board a }).board).answer
    chosen true ahead twice = first
    chosen false true twice = first
    chosen false false true = first
    chosen false false false = next_answer
