-- Which answers leave a board that waits for an attempt at its head, and that the head's own job serves it.
use Rattle.std.proofs.Common.{◌≡◌, ℕ, ◌<◌, ◌≤◌, Bool, true, false, Option, Some, None, refl, sym, ap, ap₂, ◌∙◌, subst, eq-eqb, true≢false, arith}
use Rattle.std.specs.Prelude.{nat_lt, ◌&&◌, if◌then◌else◌}
use Rattle.std.proofs.lemmas.Bool.{ltb-false, ltb-true}
use Rattle.typed_core.specs.declared.design.Next.{Next}
use Rattle.typed_core.specs.declared.design.Node.{Node}
use Rattle.attempt_log.specs.Attempt.{Attempted}
use Rattle.attempt_log.specs.Entries.{goes_on}
use Rattle.attempt_log.specs.Seats.{gives_job, is_finished}
use Rattle.attempt_log.specs.Setting.{attempt_of}
use Rattle.attempt_log.specs.Verdict.{verdict}
use Rattle.attempt_log.specs.declared.cause.Verdict.{Verdict}
use Rattle.attempt_log.specs.declared.cause.Verdict.TheVariants.{Commit, Skip, Stale}
use Rattle.attempt_log.specs.declared.entry.Settled.{Settled}
use Rattle.attempt_log.specs.declared.entry.Settled.TheVariants as settled
use Rattle.attempt_log.specs.declared.entry.Submitted.{Submitted}
use Rattle.attempt_log.specs.declared.job.Job.{Job}
use Rattle.attempt_log.specs.declared.job.JobAnswer.{JobAnswer}
use Rattle.attempt_log.specs.declared.job.JobAnswer.TheVariants as jobs
use Rattle.board_core.specs.Board.{Board, Opening, BoardStep, closed, dropped, head, judged, node_at, settle, settle_at, settle_with, stays, submit}
use Rattle.board_core.specs.Candidates.{Chooses}
use Rattle.board_core.specs.Kept.{AtPlain, Does, Kept, StandsFor}
use Rattle.board_core.specs.Laws.{IsRuleSettled, head_attempt}
use Rattle.board_core.specs.declared.event.BoardAnswer.TheVariants as answer
use Rattle.board_core.proofs.Heads.{head_comes_first, head_settles}
use Rattle.cycle_driver.specs.inner.Heads.{AwaitsHead}

-- ---- answers

-- the answer is that an attempt at the head's rule is to come
abbrev pub needs_head : Settled → Bool
needs_head (settled.Committed cycle rule) = false
needs_head (settled.Skipped cycle rule cause) = false
needs_head (settled.Stale cycle rule read) = true
needs_head (settled.CycleClosed cycle) = false
needs_head (settled.Waiting cycle rule) = true
needs_head settled.Finished = false

-- the head is a node up to the last cycle, and no attempt stands for it
record Awaits (o : Opening) (board : Board) : Type 0 where
  within : board.cycle ≤ o.to
  node : Node
  here : head o board ≡ Some node
  none : board.slots board.cycle node.rule ≡ None

-- what an answer says of the board after it
record Knows (o : Opening) (told : Settled) (after : Board) : Type 0 where
  awaits : needs_head told ≡ true → Awaits o after
  past : is_finished told ≡ true → o.to < after.cycle

abbrev After : Opening → BoardStep → Type 0
After o s = (told : Settled) → s.answer ≡ answer.Settle told → Knows o told s.board

told_same : (s t : Settled) → answer.Settle s ≡ answer.Settle t → s ≡ t
told_same s t e = cc

no : {A : Type 0} → false ≡ true → A
no e = absurd (true≢false (sym e))

by_answer : (o : Opening) (s : Settled) (after : Board) → Knows o s after → After o (record { answer = answer.Settle s; board = after })
by_answer o s after k told e = subst (λ (t : Settled). Knows o t after) (told_same s told e) k

module _ (o : Opening) (board : Board) (less : board.cycle ≤ o.to) where
  after_judged : (node : Node) → head o board ≡ Some node → (a : Attempted) (v : Verdict) → After o (judged board node a v)
  after_judged node here a Commit =
      by_answer o (settled.Committed board.cycle node.rule) (judged board node a Commit).board (record { awaits = λ e. no e; past = λ e. no e })
  after_judged node here a (Skip cause) =
      by_answer o (settled.Skipped board.cycle node.rule cause) (judged board node a (Skip cause)).board (record { awaits = λ e. no e; past = λ e. no e })
  after_judged node here a (Stale read) =
      by_answer o (settled.Stale board.cycle node.rule read) (dropped board node.rule)
      (record { awaits = λ _. record { within = less; node = node; here = here; none = emptied }; past = λ e. no e })
    where
      emptied : (dropped board node.rule).slots board.cycle node.rule ≡ None
      emptied =
          ap₂ (λ (x y : Bool). if x && y then None else board.slots board.cycle node.rule) (eq-eqb board.cycle board.cycle refl) (eq-eqb node.rule node.rule refl)

  after_with : (node : Node) → head o board ≡ Some node → (held : Option Attempted) → board.slots board.cycle node.rule ≡ held → After o (settle_with board node held)
  after_with node here None e =
      by_answer o (settled.Waiting board.cycle node.rule) board
      (record { awaits = λ _. record { within = less; node = node; here = here; none = e }; past = λ e. no e })
  after_with node here (Some a) e = after_judged node here a (verdict board.walk.state.regs board.walk.state.past a.run)

  after_at : (n : Option Node) → head o board ≡ n → After o (settle_at o board n)
  after_at None here =
      by_answer o (settled.CycleClosed board.cycle) (closed o board) (record { awaits = λ e. no e; past = λ e. no e })
  after_at (Some node) here = after_with node here (board.slots board.cycle node.rule) refl

after_settle : (o : Opening) (board : Board) → After o (settle o board)
after_settle o board = chosen (nat_lt o.to board.cycle) refl
  where
    chosen : (b : Bool) → nat_lt o.to board.cycle ≡ b → After o (if b then stays board (answer.Settle settled.Finished) else settle_at o board (head o board))
    chosen true h = by_answer o settled.Finished board (record { awaits = λ e. no e; past = λ _. ltb-true o.to board.cycle h })
    chosen false h = after_at o board (ltb-false o.to board.cycle h) (head o board) refl

-- ---- cores

module _ (old new : Kept) (p : AtPlain old) (q : AtPlain new) (same : new.opening ≡ old.opening) (told : Settled) (does : Does settle old (answer.Settle told) new) where
  abbrev after : Board
  after = (settle old.opening p.board).board

  stands : StandsFor new after
  stands = (does p.board p.stands).1

  known : Knows old.opening told after
  known = after_settle old.opening p.board told (sym (does p.board p.stands).0)

  pub awaits_head : needs_head told ≡ true → AwaitsHead new
  awaits_head needs =
      let a = known.awaits needs in
      let cycle : q.board.cycle ≡ after.cycle = sym q.stands.cycle ∙ stands.cycle in
      let at : q.board.walk.at ≡ after.walk.at = sym q.stands.place.at ∙ stands.place.at in
      let last : new.opening.to ≡ old.opening.to = ap (λ (o : Opening). o.to) same in
      record {
        plain = q;
        within = omega (arith, a.within, cycle, last);
        node = a.node;
        here = ap₂ (λ (o : Opening) (n : Next). node_at o.design.nodes n) same at ∙ a.here;
        none =
            ap (λ (c : ℕ). q.board.slots c a.node.rule) cycle
            ∙ sym (q.stands.slots after.cycle a.node.rule) ∙ stands.slots after.cycle a.node.rule ∙ a.none;
      }

  pub past_last : is_finished told ≡ true → new.opening.to < new.cycle
  past_last ends =
      let last : new.opening.to ≡ old.opening.to = ap (λ (o : Opening). o.to) same in
      let past = known.past ends in
      omega (arith, past, last, stands.cycle)

-- ---- the head's job

settled_goes_on : (s : Settled) → IsRuleSettled (answer.Settle s) → goes_on s ≡ true
settled_goes_on (settled.Committed cycle rule) h = refl
settled_goes_on (settled.Skipped cycle rule cause) h = refl
settled_goes_on (settled.Stale cycle rule read) h = absurd h
settled_goes_on (settled.CycleClosed cycle) h = absurd h
settled_goes_on (settled.Waiting cycle rule) h = absurd h
settled_goes_on settled.Finished h = absurd h

job_same : (a b : Job) → jobs.Job a ≡ jobs.Job b → a ≡ b
job_same a b e = cc

module _ (old : Kept) (w : AwaitsHead old) where
  abbrev o : Opening
  o = old.opening

  abbrev b : Board
  b = w.plain.board

  -- it has a job
  pub head_has_job : (told : JobAnswer) → ((board : Board) → StandsFor old board → Chooses old.opening board 0 told) → gives_job told ≡ true
  head_has_job told chooses =
      let first = head_comes_first o b w.node told w.within w.here w.none (chooses b w.plain.stands) in
      ap gives_job first.1

  -- the attempt that does it is settled next
  pub head_goes_on : (mid new : Kept) (job : Job) (a : Attempted) (told : Submitted) (s : Settled) → ((board : Board) → StandsFor old board → Chooses old.opening board 0 (jobs.Job job)) → a ≡ attempt_of job
      → mid.opening ≡ old.opening → Does (λ o board. submit o board a) old (answer.Submit told) mid → Does settle mid (answer.Settle s) new → goes_on s ≡ true
  head_goes_on mid new job a told s chooses is same submits settles =
      let first = head_comes_first o b w.node (jobs.Job job) w.within w.here w.none (chooses b w.plain.stands) in
      let made : a ≡ head_attempt o b w.node = is ∙ ap attempt_of (job_same job first.0 first.1) ∙ first.2 in
      let next = (submits b w.plain.stands).1 in
      let answered = (settles (submit o b a).board next).0 in
      let h = head_settles o b w.node w.plain.opening w.plain.plain w.plain.window w.within w.here w.none in
      let moved : (settle mid.opening (submit o b a).board).answer ≡ (settle o (submit o b (head_attempt o b w.node)).board).answer =
      ap₂ (λ (p : Opening) (x : Attempted). (settle p (submit o b x).board).answer) same made in
      settled_goes_on s (subst IsRuleSettled (sym (answered ∙ moved)) h.1)
