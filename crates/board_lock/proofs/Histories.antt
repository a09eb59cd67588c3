-- Histories that grow by a call of the core, and a board that is past its last cycle.
use Rattle.std.proofs.Common.{◌≡◌, ◌<◌, ◌≤◌, ℕ, Bool, true, false, true≢false, List, [], ◌∷◌, ◌++◌, Option, Some, None, refl, sym, ap, ◌∙◌, subst, arith}
use Rattle.std.specs.Prelude.{nat_lt, if◌then◌else◌}
use Rattle.std.proofs.lemmas.Bool.{ltb-true}
use Rattle.std.proofs.lemmas.List.{map-append}
use Rattle.typed_core.specs.declared.design.Node.{Node}
use Rattle.attempt_log.specs.Attempt.{Attempted, IsAttempt}
use Rattle.attempt_log.specs.Entries.{settle_entry, submit_entry}
use Rattle.attempt_log.specs.Seats.{is_finished}
use Rattle.attempt_log.specs.Setting.{IsFor}
use Rattle.attempt_log.specs.declared.cause.Verdict.{Verdict}
use Rattle.attempt_log.specs.declared.cause.Verdict.TheVariants.{Commit, Skip, Stale}
use Rattle.attempt_log.specs.declared.entry.Entry.{Entry}
use Rattle.attempt_log.specs.declared.entry.Settled.{Settled}
use Rattle.attempt_log.specs.declared.entry.Settled.TheVariants as settled
use Rattle.attempt_log.specs.declared.entry.Submitted.{Submitted}
use Rattle.attempt_log.specs.declared.entry.Submitted.TheVariants as given
use Rattle.attempt_log.proofs.Alike.{attempt_at, same_by_equal}
use Rattle.board_core.specs.Board.{Board, Opening, head, is_ahead, is_late, judged, opened, run_events, setting_of, settle, settle_at, settle_with, stands, stays, step, stored, submit}
use Rattle.board_core.specs.History.{GoesOn, IsLegal, Settle, Submit, Told, board_after, event_of, events_of, told_of}
use Rattle.board_core.specs.Kept.{Does, Kept, StandsFor}
use Rattle.board_core.specs.declared.event.BoardAnswer.TheVariants as answer
use Rattle.board_core.specs.declared.event.BoardEvent.{BoardEvent}
use Rattle.board_core.specs.declared.event.BoardEvent.TheVariants as event
use Rattle.board_core.proofs.Histories.{legal_goes_on, submits_alike}
use Rattle.board_lock.specs.Histories.{IsPast, Leaves, StartsWith}

pub nothing_legal : (o : Opening) → IsLegal o []
nothing_legal o = record { attempts = tt; answers = refl }

-- ---- a call of the core is an entry more

-- where the core answers as the step of the entry's event does, and stands for the board after it
took : (o : Opening) (log : List Entry) (k new : Kept) (e : Entry) → Leaves o log k → IsLegal o log → new.opening ≡ k.opening → GoesOn o log e → StandsFor new (step o (board_after o log) (event_of o.design e)).board → Leaves o (log ++ e ∷ []) new
took o log k new e l legal same goes stands = record { opening = same ∙ l.opening; stands = subst (StandsFor new) (sym (legal_goes_on o log e legal goes).1) stands }

submit_here : (o : Opening) (log : List Entry) (k new : Kept) (worker : ℕ) (a : Attempted) (r : Submitted) → Leaves o log k → IsLegal o log → IsAttempt a → IsFor (setting_of o) a → Does (λ p b. submit p b a) k (answer.Submit r) new → new.opening ≡ k.opening
    → GoesOn o log (submit_entry worker a r) × Leaves o (log ++ submit_entry worker a r ∷ []) new
submit_here o log k new worker a r l legal attempt fits does same =
    let b : Board = board_after o log in
    let there : (answer.Submit r ≡ (submit o b a).answer) × StandsFor new (submit o b a).board = subst (λ (p : Opening). (answer.Submit r ≡ (submit p b a).answer) × StandsFor new (submit p b a).board) l.opening (does b l.stands) in
    let alike = submits_alike o b a in
    let goes : GoesOn o log (submit_entry worker a r) = record {
      attempt = record { attempt = attempt_at a o.design fits.design attempt; is_for = record { design = same_by_equal o.design o.design refl; inputs = fits.inputs } };
      answer = ap told_of there.0 ∙ sym alike.0;
    } in
    (goes, took o log k new (submit_entry worker a r) l legal same goes (subst (StandsFor new) (sym alike.1) there.1))

-- the attempt as it was noted before the call
pub took_submit : (o : Opening) (log : List Entry) (k new : Kept) (worker : ℕ) (a said : Attempted) (r : Submitted) → Leaves o log k → IsLegal o log → IsAttempt a → IsFor (setting_of o) a → Does (λ p b. submit p b a) k (answer.Submit r) new → new.opening ≡ k.opening → said ≡ a
    → GoesOn o log (submit_entry worker said r) × Leaves o (log ++ submit_entry worker said r ∷ []) new
took_submit o log k new worker a said r l legal attempt fits does same is =
    subst (λ (x : Attempted). GoesOn o log (submit_entry worker x r) × Leaves o (log ++ submit_entry worker x r ∷ []) new) (sym is) (submit_here o log k new worker a r l legal attempt fits does same)

pub took_settle : (o : Opening) (log : List Entry) (k new : Kept) (worker : ℕ) (r : Settled) → Leaves o log k → IsLegal o log → Does settle k (answer.Settle r) new → new.opening ≡ k.opening
    → GoesOn o log (settle_entry worker r) × Leaves o (log ++ settle_entry worker r ∷ []) new
took_settle o log k new worker r l legal does same =
    let b : Board = board_after o log in
    let there : (answer.Settle r ≡ (settle o b).answer) × StandsFor new (settle o b).board = subst (λ (p : Opening). (answer.Settle r ≡ (settle p b).answer) × StandsFor new (settle p b).board) l.opening (does b l.stands) in
    let goes : GoesOn o log (settle_entry worker r) = record { attempt = tt; answer = ap told_of there.0 } in
    (goes, took o log k new (settle_entry worker r) l legal same goes there.1)

-- ---- a board that is past its last cycle stays so

submit_cycle : (o : Opening) (b : Board) (a : Attempted) → (submit o b a).board.cycle ≡ b.cycle
submit_cycle o b a = pick (is_late b a) (is_ahead o b a) (stands b a.cycle a.rule)
  where
    pick : (x y z : Bool)
        → (if x then stays b (answer.Submit (given.Late a)) else if y then stays b (answer.Submit (given.Ahead a)) else if z then stays b (answer.Submit (given.Twice a)) else record { answer = answer.Submit given.Stored; board = stored o b a }).board.cycle ≡ b.cycle
    pick true y z = refl
    pick false true z = refl
    pick false false true = refl
    pick false false false = refl

judged_cycle : (b : Board) (node : Node) (a : Attempted) (v : Verdict) → (judged b node a v).board.cycle ≡ b.cycle
judged_cycle b node a Commit = refl
judged_cycle b node a (Skip cause) = refl
judged_cycle b node a (Stale read) = refl

with_cycle : (b : Board) (node : Node) (held : Option Attempted) → (settle_with b node held).board.cycle ≡ b.cycle
with_cycle b node None = refl
with_cycle b node (Some a) = judged_cycle b node a _

at_cycle : (o : Opening) (b : Board) (node : Option Node) → b.cycle ≤ (settle_at o b node).board.cycle
at_cycle o b None = omega arith
at_cycle o b (Some node) = subst (λ (n : ℕ). b.cycle ≤ n) (sym (with_cycle b node (b.slots b.cycle node.rule))) (omega arith)

settle_cycle : (o : Opening) (b : Board) → b.cycle ≤ (settle o b).board.cycle
settle_cycle o b = pick (nat_lt o.to b.cycle)
  where
    pick : (x : Bool) → b.cycle ≤ (if x then stays b (answer.Settle settled.Finished) else settle_at o b (head o b)).board.cycle
    pick true = omega arith
    pick false = at_cycle o b (head o b)

step_cycle : (o : Opening) (b : Board) (e : BoardEvent) → b.cycle ≤ (step o b e).board.cycle
step_cycle o b (event.Submit a) = subst (λ (n : ℕ). b.cycle ≤ n) (sym (submit_cycle o b a)) (omega arith)
step_cycle o b event.Settle = settle_cycle o b

pub run_cycle : (o : Opening) (b : Board) (es : List BoardEvent) → b.cycle ≤ (run_events o b es).board.cycle
run_cycle o b [] = omega arith
run_cycle o b (e ∷ es) = omega (arith, step_cycle o b e, run_cycle o (step o b e).board es)

run_append : (o : Opening) (b : Board) (xs ys : List BoardEvent) → (run_events o b (xs ++ ys)).board ≡ (run_events o (run_events o b xs).board ys).board
run_append o b [] ys = refl
run_append o b (x ∷ xs) ys = run_append o (step o b x).board xs ys

board-append : (o : Opening) (xs ys : List Entry) → board_after o (xs ++ ys) ≡ (run_events o (board_after o xs) (events_of o ys)).board
board-append o xs ys = ap (λ (l : List BoardEvent). (run_events o (opened o) l).board) (map-append (event_of o.design) xs ys) ∙ run_append o (opened o) (events_of o xs) (events_of o ys)

pub past_stays : (o : Opening) (log seen : List Entry) → StartsWith log seen → IsPast o seen → IsPast o log
past_stays o log seen s past =
    let more = run_cycle o (board_after o seen) (events_of o s.0) in
    let same : (board_after o log).cycle ≡ (run_events o (board_after o seen) (events_of o s.0)).board.cycle = ap (λ (b : Board). b.cycle) (ap (board_after o) s.1 ∙ board-append o seen s.0) in
    omega (arith, past, more, same)

-- ---- a settle is answered that the board has finished where it is past its last cycle

-- it is an answer that the board has finished
abbrev ends : Told → Bool
ends (Submit t) = false
ends (Settle s) = is_finished s

judged_on : (b : Board) (node : Node) (a : Attempted) (v : Verdict) → ends (told_of (judged b node a v).answer) ≡ false
judged_on b node a Commit = refl
judged_on b node a (Skip cause) = refl
judged_on b node a (Stale read) = refl

with_on : (b : Board) (node : Node) (held : Option Attempted) → ends (told_of (settle_with b node held).answer) ≡ false
with_on b node None = refl
with_on b node (Some a) = judged_on b node a _

at_on : (o : Opening) (b : Board) (node : Option Node) → ends (told_of (settle_at o b node).answer) ≡ false
at_on o b None = refl
at_on o b (Some node) = with_on b node (b.slots b.cycle node.rule)

pub finished_past : (o : Opening) (log : List Entry) (worker : ℕ) (r : Settled) → GoesOn o log (settle_entry worker r) → is_finished r ≡ true → IsPast o log
finished_past o log worker r goes fin = pick (nat_lt o.to b.cycle) refl (sym (ap ends goes.answer) ∙ fin)
  where
    b : Board
    b = board_after o log

    pick : (x : Bool) → nat_lt o.to b.cycle ≡ x → ends (told_of (if x then stays b (answer.Settle settled.Finished) else settle_at o b (head o b)).answer) ≡ true → o.to < b.cycle
    pick true is e = ltb-true o.to b.cycle is
    pick false is e = absurd (true≢false (sym e ∙ at_on o b (head o b)))
