-- Each board has a legal history that closes all its cycles: one worker does the job of each head, one after another.
use Rattle.std.proofs.Common.{◌≡◌, ◌+◌, ◌-◌, ◌<◌, ◌≤◌, ℕ, zero, suc, Bool, true, false, List, [], ◌∷◌, ◌++◌, length, Option, Some, None, refl, sym, ap, ap₂, subst, ◌∙◌, arith, ⊎_elim, eq-eqb}
use Rattle.std.specs.Prelude.{nat_lt, ◌&&◌, if◌then◌else◌}
use Rattle.std.specs.List.{AllByRecursion}
use Rattle.std.proofs.lemmas.Bool.{cases_lt, le-ltb}
use Rattle.kw_bits.specs.BitVector.{BitVector}
use Rattle.typed_core.specs.Widths.{HaveWidths, input_widths, register_widths}
use Rattle.typed_core.specs.declared.design.Next.{Next as After}
use Rattle.typed_core.specs.declared.design.Next.TheVariants as next_of
use Rattle.typed_core.specs.declared.design.Node.{Node}
use Rattle.typed_core.specs.declared.design.Parts.{Parts}
use Rattle.one_rule.specs.Cycle.{fire, system_of}
use Rattle.one_rule.specs.Rows.{RowsFit}
use Rattle.one_rule.specs.Run.{last_registers}
use Rattle.one_rule.specs.Stimulus.{inputs_of}
use Rattle.one_rule.specs.Walk.{Walk, goes_on as walks_on}
use Rattle.one_rule.specs.declared.cycle.State.{State}
use Rattle.one_rule.specs.declared.rows.Row.{Row}
use Rattle.one_rule.proofs.Fitting.{fire_fits, run_fits}
use Rattle.attempt_log.specs.Attempt.{Attempted, IsAttempt}
use Rattle.attempt_log.specs.Entries.{goes_on, settle_entry, submit_entry, worker_of}
use Rattle.attempt_log.specs.Verdict.{verdict}
use Rattle.attempt_log.specs.declared.cause.StaleRead.{StaleRead}
use Rattle.attempt_log.specs.declared.cause.Verdict.{Verdict}
use Rattle.attempt_log.specs.declared.cause.Verdict.TheVariants.{Commit, Skip, Stale}
use Rattle.attempt_log.specs.declared.entry.Entry.{Entry}
use Rattle.attempt_log.specs.declared.entry.Settled.{Settled}
use Rattle.attempt_log.specs.declared.entry.Settled.TheVariants as settled
use Rattle.attempt_log.specs.declared.entry.Submitted.TheVariants as submitted
use Rattle.attempt_log.proofs.Alike.{same_by_equal}
use Rattle.attempt_log.proofs.Commits.{alone_gives_traces}
use Rattle.board_core.specs.Board.{Board, Opening, BoardStep, dropped, head, judged, node_at, settle, settle_at, settle_with, stays, submit}
use Rattle.board_core.specs.History.{GoesOn, IsLegal, board_after, told_of}
use Rattle.board_core.specs.Laws.{IsRuleSettled, head_attempt, left_of}
use Rattle.board_core.specs.Position.{IsOpening, IsPlain, position, visit_if}
use Rattle.board_core.specs.declared.event.BoardAnswer.TheVariants as answer
use Rattle.board_core.proofs.Heads.{head_settles}
use Rattle.board_core.proofs.Histories.{legal_goes_on}
use Rattle.board_core.proofs.Left.{going_on_lowers, submits_keep}
use Rattle.board_core.proofs.Plain.{histories_are_plain}
use Rattle.board_lock.specs.Histories.{InRun, IsPast}
use Rattle.board_lock.proofs.Histories.{nothing_legal}
use Rattle.board_lock.proofs.Ranges.{every-append, settle_in}
use Rattle.cycle_driver.proofs.Rows.{rows_fit}

-- ---- registers of a plain board

pub last_fit : (design : Parts) (regs : List BitVector) (rows : List Row) → HaveWidths (register_widths design) regs → RowsFit design rows → HaveWidths (register_widths design) (last_registers regs rows)
last_fit design regs [] fits all = fits
last_fit design regs (row ∷ rows) fits all = last_fit design row.regs rows all.0.registers all.1

module _ (o : Opening) (opening' : IsOpening o) where
  inputs_fit : (cycle : ℕ) → HaveWidths (input_widths o.design) (inputs_of o.stimulus cycle)
  inputs_fit cycle = subst (λ (widths : List ℕ). HaveWidths widths (inputs_of o.stimulus cycle)) opening'.stimulus (opening'.always cycle)

  abbrev Fits : Walk State → Type 0
  Fits walk = HaveWidths (register_widths o.design) walk.state.regs

  -- what a visit leaves
  module _ (cycle : ℕ) (before : Walk State) (fits : Fits before) where
    fired_fits : (node : Node) (found : Option State) → fire (system_of o.design) (inputs_of o.stimulus cycle) node.rule before.state ≡ found → Fits (walks_on node before.state found)
    fired_fits node None is = fits
    fired_fits node (Some fired) is = fire_fits o.design opening'.design (inputs_of o.stimulus cycle) (inputs_fit cycle) node.rule before.state fired fits is

    visited_fits : (node : Option Node) → Fits (visit_if (fire (system_of o.design) (inputs_of o.stimulus cycle)) before node)
    visited_fits None = fits
    visited_fits (Some node) = fired_fits node (fire (system_of o.design) (inputs_of o.stimulus cycle) node.rule before.state) refl

  position_fits : (cycle : ℕ) (regs : List BitVector) (visits : ℕ) → HaveWidths (register_widths o.design) regs → Fits (position (system_of o.design) (inputs_of o.stimulus cycle) regs visits)
  position_fits cycle regs zero fits = fits
  position_fits cycle regs (suc visits) fits =
      let before = position (system_of o.design) (inputs_of o.stimulus cycle) regs visits in
      visited_fits cycle before (position_fits cycle regs visits fits) (node_at o.design.nodes before.at)

  plain_fits : (board : Board) → IsPlain o board → Fits board.walk
  plain_fits board plain =
      let so_far : Opening = record o { to = board.cycle - 1 } in
      let opened' : IsOpening so_far = record { design = opening'.design; stimulus = opening'.stimulus; always = opening'.always; registers = opening'.registers; order = omega (arith, plain.after) } in
      let rows : RowsFit o.design board.rows = subst (RowsFit o.design) (sym plain.rows) (rows_fit so_far opened') in
      subst Fits (sym plain.walk) (position_fits board.cycle (last_registers o.regs board.rows) plain.visits (last_fit o.design o.regs board.rows opening'.registers rows))

-- ---- answers of a settle

abbrev Tells : BoardStep → Type 0
Tells s = (told : Settled) × (s.answer ≡ answer.Settle told)

judged_tells : (b : Board) (node : Node) (a : Attempted) (v : Verdict) → Tells (judged b node a v)
judged_tells b node a Commit = (settled.Committed b.cycle node.rule, refl)
judged_tells b node a (Skip cause) = (settled.Skipped b.cycle node.rule cause, refl)
judged_tells b node a (Stale read) = (settled.Stale b.cycle node.rule read, refl)

with_tells : (b : Board) (node : Node) (held : Option Attempted) → Tells (settle_with b node held)
with_tells b node None = (settled.Waiting b.cycle node.rule, refl)
with_tells b node (Some a) = judged_tells b node a _

at_tells : (o : Opening) (b : Board) (node : Option Node) → Tells (settle_at o b node)
at_tells o b None = (settled.CycleClosed b.cycle, refl)
at_tells o b (Some node) = with_tells b node (b.slots b.cycle node.rule)

settle_tells : (o : Opening) (b : Board) → Tells (settle o b)
settle_tells o b = pick (nat_lt o.to b.cycle)
  where
    pick : (x : Bool) → Tells (if x then stays b (answer.Settle settled.Finished) else settle_at o b (head o b))
    pick true = (settled.Finished, refl)
    pick false = at_tells o b (head o b)

settled_on : (told : Settled) → IsRuleSettled (answer.Settle told) → goes_on told ≡ true
settled_on (settled.Committed cycle rule) h = refl
settled_on (settled.Skipped cycle rule cause) h = refl
settled_on (settled.Stale cycle rule read) h = absurd h
settled_on (settled.CycleClosed cycle) h = absurd h
settled_on (settled.Waiting cycle rule) h = absurd h
settled_on settled.Finished h = absurd h

-- ---- histories

-- what one worker did, of the number 0
pub record IsDone (o : Opening) (entries : List Entry) : Type 0 where
  pub legal : IsLegal o entries
  pub by : AllByRecursion (λ (e : Entry). worker_of e ≡ 0) entries
  pub in_run : AllByRecursion (InRun o) entries

module _ (o : Opening) (opening' : IsOpening o) (window : 1 ≤ o.window) where
  more : (entries : List Entry) (e : Entry) → IsDone o entries → GoesOn o entries e → worker_of e ≡ 0 → InRun o e → IsDone o (entries ++ e ∷ [])
  more entries e done goes by in_run = record {
    legal = (legal_goes_on o entries e done.legal goes).0;
    by = every-append (λ (x : Entry). worker_of x ≡ 0) entries (e ∷ []) done.by (by, tt);
    in_run = every-append (InRun o) entries (e ∷ []) done.in_run (in_run, tt);
  }

  -- one settle more
  record Next (entries : List Entry) : Type 0 where
    told : Settled
    is : (settle o (board_after o entries)).answer ≡ answer.Settle told
    done : IsDone o (entries ++ settle_entry 0 told ∷ [])
    after : board_after o (entries ++ settle_entry 0 told ∷ []) ≡ (settle o (board_after o entries)).board

  next : (entries : List Entry) → IsDone o entries → Next entries
  next entries done =
      let found = settle_tells o (board_after o entries) in
      let goes : GoesOn o entries (settle_entry 0 found.0) = record { attempt = tt; answer = sym (ap told_of found.1) } in
      record {
        told = found.0;
        is = found.1;
        done = more entries (settle_entry 0 found.0) done goes refl (settle_in o 0 found.0);
        after = (legal_goes_on o entries (settle_entry 0 found.0) done.legal goes).1;
      }

  module _ (entries : List Entry) (done : IsDone o entries) where
    abbrev here : Board
    here = board_after o entries

    plain : IsPlain o here
    plain = histories_are_plain o entries opening' done.legal

    -- longer, with less left
    record Goes : Type 0 where
      longer : List Entry
      done' : IsDone o longer
      less : left_of o (board_after o longer) < left_of o here

    by_settle : (n : Next entries) → goes_on n.told ≡ true → Goes
    by_settle n on =
        let less = (going_on_lowers o here n.told opening' plain n.is).0 on in
        record { longer = entries ++ settle_entry 0 n.told ∷ []; done' = n.done; less = subst (λ (b : Board). left_of o b < left_of o here) (sym n.after) less }

    -- the head's job is done and settled, where it waits for an attempt
    module _ (node : Node) (within : here.cycle ≤ o.to) (at : head o here ≡ Some node) (none : here.slots here.cycle node.rule ≡ None) (rule : node.rule < length o.design.rules) where
      abbrev a : Attempted
      a = head_attempt o here node

      fits : HaveWidths (register_widths o.design) here.walk.state.regs
      fits = plain_fits o opening' here plain

      inputs' : HaveWidths (input_widths o.design) (inputs_of o.stimulus here.cycle)
      inputs' = inputs_fit o opening' here.cycle

      attempt' : IsAttempt a
      attempt' = record {
        rule = rule;
        inputs = inputs';
        trace = alone_gives_traces o.design node.rule (inputs_of o.stimulus here.cycle) here.walk.state.regs opening'.design inputs' fits;
        events = run_fits o.design opening'.design (inputs_of o.stimulus here.cycle) here.walk.state.regs inputs' fits node.rule;
      }

      settles : ((submit o here a).answer ≡ answer.Submit submitted.Stored) × IsRuleSettled (settle o (submit o here a).board).answer
      settles = head_settles o here node opening' plain window within at none

      abbrev e : Entry
      e = submit_entry 0 a submitted.Stored

      goes : GoesOn o entries e
      goes = record {
        attempt = record { attempt = attempt'; is_for = record { design = same_by_equal o.design o.design refl; inputs = refl } };
        answer = sym (ap told_of settles.0);
      }

      handed : IsDone o (entries ++ e ∷ [])
      handed = more entries e done goes refl (λ _. (plain.after, within))

      after : board_after o (entries ++ e ∷ []) ≡ (submit o here a).board
      after = (legal_goes_on o entries e done.legal goes).1

      by_job : Goes
      by_job =
          let n = next (entries ++ e ∷ []) handed in
          let told : (settle o (submit o here a).board).answer ≡ answer.Settle n.told = ap (λ (b : Board). (settle o b).answer) (sym after) ∙ n.is in
          let on = settled_on n.told (subst IsRuleSettled told settles.1) in
          let less = (going_on_lowers o (board_after o (entries ++ e ∷ [])) n.told opening' (histories_are_plain o (entries ++ e ∷ []) opening' handed.legal) n.is).0 on in
          let same : left_of o (board_after o (entries ++ e ∷ [])) ≡ left_of o here = ap (left_of o) after ∙ submits_keep o here a in
          record {
            longer = (entries ++ e ∷ []) ++ settle_entry 0 n.told ∷ [];
            done' = n.done;
            less = subst (λ (k : ℕ). left_of o (board_after o ((entries ++ e ∷ []) ++ settle_entry 0 n.told ∷ [])) < k) same (subst (λ (b : Board). left_of o b < left_of o (board_after o (entries ++ e ∷ []))) (sym n.after) less);
          }

    -- ---- by what the head is

    settle_here : here.cycle ≤ o.to → settle o here ≡ settle_at o here (head o here)
    settle_here within = ap (λ (x : Bool). if x then stays here (answer.Settle settled.Finished) else settle_at o here (head o here)) (le-ltb o.to here.cycle within)

    same_told : (s t : Settled) → answer.Settle s ≡ answer.Settle t → s ≡ t
    same_told s t e = cc

    -- the answer of a settle that is this step
    told_is : (n : Next entries) (s : BoardStep) (t : Settled) → settle o here ≡ s → s.answer ≡ answer.Settle t → n.told ≡ t
    told_is n s t is told = same_told n.told t (sym n.is ∙ ap (λ (x : BoardStep). x.answer) is ∙ told)

    rule_of : (at : After) (node : Node) → node_at o.design.nodes at ≡ Some node → node.rule < length o.design.rules
    rule_of (next_of.Node number) node is = (opening'.design.nodes number node is).rule
    rule_of next_of.End node is = absurd cc

-- the step after which less is left; where the head's attempt is stale, it is dropped before
module _ (o : Opening) (opening' : IsOpening o) (window : 1 ≤ o.window) where
  module _ (entries : List Entry) (done : IsDone o entries) (within : (board_after o entries).cycle ≤ o.to) where
    abbrev b : Board
    b = board_after o entries

    n : Next o opening' window entries
    n = next o opening' window entries done

    begins : settle o b ≡ settle_at o b (head o b)
    begins = settle_here o opening' window entries done within

    on : (s : BoardStep) (t : Settled) → settle o b ≡ s → s.answer ≡ answer.Settle t → goes_on t ≡ true → Goes o opening' window entries done
    on s t is told goes = by_settle o opening' window entries done n (ap goes_on (told_is o opening' window entries done n s t is told) ∙ goes)

    module _ (node : Node) (at : head o b ≡ Some node) where
      rule : node.rule < length o.design.rules
      rule = rule_of o opening' window entries done b.walk.at node at

      emptied : (dropped b node.rule).slots b.cycle node.rule ≡ None
      emptied =
          ap₂ (λ (x y : Bool). if x && y then None else b.slots b.cycle node.rule) (eq-eqb b.cycle b.cycle refl) (eq-eqb node.rule node.rule refl)

      module _ (a : Attempted) (slot : b.slots b.cycle node.rule ≡ Some a) where
        so : settle o b ≡ judged b node a (verdict b.walk.state.regs b.walk.state.past a.run)
        so = begins ∙ ap (settle_at o b) at ∙ ap (settle_with b node) slot

        -- the attempt is dropped, and the head's job done
        stale : (read : StaleRead) → settle o b ≡ judged b node a (Stale read) → Goes o opening' window entries done
        stale read is =
            let told = told_is o opening' window entries done n (judged b node a (Stale read)) (settled.Stale b.cycle node.rule read) is refl in
            let entries' = entries ++ settle_entry 0 n.told ∷ [] in
            let after : board_after o entries' ≡ dropped b node.rule = n.after ∙ ap (λ (s : BoardStep). s.board) is in
            let same : left_of o (board_after o entries') ≡ left_of o b =
            ap (left_of o) n.after ∙ (going_on_lowers o b n.told opening' (plain o opening' window entries done) n.is).1 (ap goes_on told) in
            let goes = by_job o opening' window entries' n.done node
            (subst (λ (x : Board). x.cycle ≤ o.to) (sym after) within)
            (subst (λ (x : Board). head o x ≡ Some node) (sym after) at)
            (subst (λ (x : Board). x.slots x.cycle node.rule ≡ None) (sym after) emptied)
            rule in
            record { longer = goes.longer; done' = goes.done'; less = subst (λ (k : ℕ). left_of o (board_after o goes.longer) < k) same goes.less }

        of_verdict : (v : Verdict) → verdict b.walk.state.regs b.walk.state.past a.run ≡ v → Goes o opening' window entries done
        of_verdict Commit is = on _ (settled.Committed b.cycle node.rule) (so ∙ ap (judged b node a) is) refl refl
        of_verdict (Skip cause) is = on _ (settled.Skipped b.cycle node.rule cause) (so ∙ ap (judged b node a) is) refl refl
        of_verdict (Stale read) is = stale read (so ∙ ap (judged b node a) is)

      of_slot : (held : Option Attempted) → b.slots b.cycle node.rule ≡ held → Goes o opening' window entries done
      of_slot None none = by_job o opening' window entries done node within at none rule
      of_slot (Some a) slot = of_verdict a slot (verdict b.walk.state.regs b.walk.state.past a.run) refl

    of_head : (node : Option Node) → head o b ≡ node → Goes o opening' window entries done
    of_head None at = on _ (settled.CycleClosed b.cycle) (begins ∙ ap (settle_at o b) at) refl refl
    of_head (Some node) at = of_slot node at (b.slots b.cycle node.rule) refl

    step : Goes o opening' window entries done
    step = of_head (head o b) refl

  -- a history that closes all cycles
  abbrev Whole : Type 0
  Whole = (entries : List Entry) × IsDone o entries × IsPast o entries

  -- with no more steps than these left it is finished
  finish : (fuel : ℕ) (entries : List Entry) → IsDone o entries → left_of o (board_after o entries) ≤ fuel → Whole
  finish zero entries done few =
      ⊎_elim (λ past. (entries, done, past)) (λ within. absurd (omega (arith, (step entries done within).less, few))) (cases_lt o.to (board_after o entries).cycle)
  finish (suc fuel) entries done few =
      ⊎_elim
      (λ past. (entries, done, past))
      (λ within. let on = step entries done within in finish fuel on.longer on.done' (omega (arith, on.less, few)))
      (cases_lt o.to (board_after o entries).cycle)

  pub some_history : Whole
  some_history = finish (left_of o (board_after o [])) [] (record { legal = nothing_legal o; by = tt; in_run = tt }) (omega arith)
