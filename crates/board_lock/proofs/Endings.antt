-- What a job of a board tells its seat, and a board that a seat has seen past its last cycle.
use Rattle.std.proofs.Common.{◌≡◌, ℕ, ◌<◌, Bool, true, false, true≢false, refl, List, [], ◌∷◌, ◌++◌, Some, sym, ap, ◌∙◌, subst, arith, append_assoc}
use Rattle.std.specs.Prelude.{IfOk, OnErr, Ok, Err, Result}
use Rattle.attempt_log.specs.declared.entry.Entry.{Entry}
use Rattle.attempt_log.specs.declared.entry.Settled.{Settled}
use Rattle.attempt_log.specs.Entries.{settle_entry}
use Rattle.attempt_log.specs.declared.job.JobAnswer.{JobAnswer}
use Rattle.attempt_log.specs.declared.job.JobAnswer.TheVariants as answer
use Rattle.kw_bits.specs.declared.memory.NoMemory.{NoMemory}
use Rattle.board_core.specs.Board.{Board, Opening}
use Rattle.board_core.specs.Candidates.{Chooses}
use Rattle.board_core.specs.Kept.{Kept, StandsFor}
use Rattle.attempt_log.specs.Seats.{Grown, SeesLast, SeesMore, has_finished, is_finished, one_more_if}
use Rattle.board_lock.specs.Histories.{IsPast, Leaves, StartsWith}
use Rattle.board_core.specs.History.{GoesOn, IsLegal, board_after}
use Rattle.board_lock.specs.Plays.{Asked, Extends, OwnSince}
use Rattle.board_lock.specs.declared.view.Part.{Part}
use Rattle.board_lock.specs.declared.view.View.{View}
use Rattle.board_lock.proofs.Histories.{finished_past, past_stays}
use Rattle.board_lock.proofs.Calls.{Sat, o}
use Rattle.board_lock.proofs.Since.{since_more}

-- more was seen
pub stays_seen : (v w : View) → StartsWith w.seen v.seen → w.opened ≡ v.opened → IsPast v.opened v.seen → IsPast w.opened w.seen
stays_seen v w s same past = subst (λ (k : Opening). IsPast k w.seen) (sym same) (past_stays v.opened w.seen v.seen s past)

pub extends_begins : (v w : View) (e : Entry) → Extends v e w → StartsWith w.seen v.seen
extends_begins v w e x = (x.0 ++ e ∷ [], x.1 ∙ append_assoc v.seen x.0 (e ∷ []))

-- what is then seen is legal
pub extends_legal : (v w : View) (e : Entry) → Extends v e w → IsLegal w.opened w.seen
extends_legal v w e x = subst (λ (k : Opening). IsLegal k w.seen) (sym x.4) x.2

pub extends_since : (v w : View) (e : Entry) → Extends v e w → OwnSince v.part v.seen → OwnSince w.part w.seen
extends_since v w e x since = since_more v.part w.part v.seen w.seen since (extends_begins v w e x) (ap (λ (p : Part). p.base) x.3) x.5

-- the answer is the choice on the board that the history leaves
pub chosen : (m q : Sat) (board : Kept) (pick : ℕ) (r : Result JobAnswer NoMemory) → Asked m board q → IfOk r (λ a. (b : Board) → StandsFor board b → Chooses board.opening b pick a) → IfOk r (Chooses (o q) (board_after (o q) q.0.seen) pick)
chosen m q board pick (Err e) a f = tt
chosen m q board pick (Ok r) a f =
    let l : Leaves (o m) q.0.seen board = a.3 in
    let here : Chooses (o m) (board_after (o m) q.0.seen) pick r = subst (λ (x : Opening). Chooses x (board_after (o m) q.0.seen) pick r) l.opening (f (board_after (o m) q.0.seen) l.stands) in
    subst (λ (k : Opening). Chooses k (board_after k q.0.seen) pick r) (sym a.5) here

-- what a seat tells grows as it sees and makes entries
pub sees_more : (v w : View) → StartsWith w.seen v.seen → SeesMore (Some v.seen) (Some w.seen)
sees_more v w s = (s.0, ap (λ (l : List Entry). Some l) s.1)

pub sees_last : (v w : View) (e : Entry) → Extends v e w → SeesLast (Some v.seen) e (Some w.seen)
sees_last v w e x = (x.0, ap (λ (l : List Entry). Some l) (x.1 ∙ append_assoc v.seen x.0 (e ∷ [])))

pub own_grown : (v w : View) (e : Entry) → Extends v e w → Grown (Some v.part.own) (e ∷ []) (Some w.part.own)
own_grown v w e x = ap (λ (p : Part). Some p.own) x.3

-- a board that is answered so is past its last cycle
pub past_told : (r : Result JobAnswer NoMemory) (start : Opening) (log : List Entry) (pick : ℕ) → IfOk r (Chooses start (board_after start log) pick) → IfOk r (λ a. has_finished a ≡ true → IsPast start log)
past_told (Err e) start log pick is = tt
past_told (Ok (answer.Job j)) start log pick is = λ no. absurd (true≢false (sym no))
past_told (Ok answer.Idle) start log pick is = λ no. absurd (true≢false (sym no))
past_told (Ok answer.Finished) start log pick is = λ _. is

-- a seat that counts that it was answered so has seen the board past its last cycle
pub ended_told : (r : Result JobAnswer NoMemory) (Past : Type 0) (old new : ℕ) → (0 < old → Past) → IfOk r (λ a. has_finished a ≡ true → Past) → IfOk r (λ a. new ≡ one_more_if (has_finished a) old) → OnErr r (new ≡ old) → 0 < new → Past
ended_told (Err e) Past old new was is up none pos = was (omega (arith, none, pos))
ended_told (Ok (answer.Job j)) Past old new was is up none pos = was (omega (arith, up, pos))
ended_told (Ok answer.Idle) Past old new was is up none pos = was (omega (arith, up, pos))
ended_told (Ok answer.Finished) Past old new was is up none pos = is refl

pub settled_ended : (m q : Sat) (log : List Entry) (worker old new : ℕ) (r : Settled) → GoesOn (o m) log (settle_entry worker r) → q.0.seen ≡ log ++ settle_entry worker r ∷ [] → StartsWith q.0.seen m.0.seen → o q ≡ o m → (0 < old → IsPast (o m) m.0.seen) → new ≡ one_more_if (is_finished r) old
    → 0 < new → IsPast (o q) q.0.seen
settled_ended m q log worker old new r goes seen begins same was up pos = pick (is_finished r) refl up
  where
    pick : (b : Bool) → is_finished r ≡ b → new ≡ one_more_if b old → IsPast (o q) q.0.seen
    pick true fin up = subst (λ (k : Opening). IsPast k q.0.seen) (sym same) (past_stays (o m) q.0.seen log (settle_entry worker r ∷ [], seen) (finished_past (o m) log worker r goes fin))
    pick false fin up = stays_seen m.0 q.0 begins same (was (omega (arith, up, pos)))
