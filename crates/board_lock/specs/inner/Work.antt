-- What private functions alone cite of this crate's `Work`.
use Rattle.std.specs.Prelude.{◌≡◌, ◌⊎◌, ℕ, ◌+◌, ◌*◌, ◌<◌, ◌≤◌, List, [], ◌∷◌, length}
use Rattle.atomic_table.specs.Seated.{TableId}
use Rattle.attempt_log.specs.declared.entry.Entry.{Entry}
use Rattle.board_core.specs.Board.{Opening}
use Rattle.attempt_log.specs.declared.report.Report.{Report}
use Rattle.attempt_log.specs.declared.report.Ending.TheVariants as ending
use Rattle.spec_worker.specs.Work.{Counted}
use Rattle.board_lock.specs.Histories.{IsPast}
use Rattle.board_lock.specs.Plays.{IsOwner}
use Rattle.board_lock.specs.declared.view.Done.{Done}
use Rattle.board_lock.specs.declared.view.View.{View}
use Rattle.board_lock.specs.declared.view.Stage.TheVariants.{Outside}

-- a seat of this number at the table, split off where this had been seen, with no entry of its own
pub record IsReady (table : TableId) (base : List Entry) (start : Opening) (n of : ℕ) (at : TableId) (w : View) : Type 0 where
  pub number : of ≡ n
  pub same : at ≡ table
  pub begun : w.part.base ≡ base
  pub seen : w.seen ≡ base
  pub from : w.opened ≡ start
  pub own : w.part.own ≡ []

-- the same seat later: its own entries of each kind are as many as the report says. With Turns it made all turns, and
-- with Finished a call returned so
pub record HasWorked (turns : ℕ) (table : TableId) (base : List Entry) (start : Opening) (n of ended : ℕ) (at : TableId) (w : View) (report : Report) : Type 0 where
  pub number : of ≡ n
  pub same : at ≡ table
  pub begun : w.part.base ≡ base
  pub from : w.opened ≡ start
  pub own : Counted w.part.own report.submitted report.settled report.turns
  pub worker : report.worker ≡ n
  pub all_turns : report.ending ≡ ending.Turns → report.turns ≡ turns
  pub finished : report.ending ≡ ending.Finished → 0 < ended
  pub made : report.turns ≤ turns

-- this number of seats were given out when none was out
pub record SplitBy (count : ℕ) (v w : View) : Type 0 where
  pub seen : w.seen ≡ v.seen
  pub opened : w.opened ≡ v.opened
  pub stage : w.stage ≡ v.stage
  pub own : IsOwner w.part
  pub out : w.part.out ≡ count
  pub first : (count ≡ 0) ⊎ ((w.part.top ≡ count) × (w.part.was ≡ v.seen) × (w.part.dones ≡ []))

-- the report counts the seat's own entries of each kind. No more turns were made than given, with Turns all of them, and
-- with Finished the board that the seat's last history leaves is past its last cycle
abbrev pub Reports : ℕ → Opening → Report → Done → Type 0
Reports turns start r d = Counted d.own r.submitted r.settled r.turns × (r.ending ≡ ending.Turns → r.turns ≡ turns) × (r.ending ≡ ending.Finished → IsPast start d.seen) × (length d.own ≤ 2 * turns) × (r.turns ≤ turns)

-- the reports are those of joined seats, the first of this number
abbrev pub Matches : ℕ → Opening → List Entry → ℕ → List Report → List Done → Type 0
Matches turns start base n [] [] = Unit {0}
Matches turns start base n [] (d ∷ ds) = ⊥
Matches turns start base n (r ∷ rs) [] = ⊥
Matches turns start base n (r ∷ rs) (d ∷ ds) = (r.worker ≡ n) × (d.worker ≡ n) × (d.base ≡ base) × Reports turns start r d × Matches turns start base (n + 1) rs ds

-- all numbers from this one on were joined
pub record JoinedFrom (turns number count : ℕ) (v w : View) (reports : List Report) : Type 0 where
  pub opened : w.opened ≡ v.opened
  pub stage : w.stage ≡ Outside
  pub own : IsOwner w.part
  pub out : w.part.out ≡ number
  pub top : w.part.top ≡ count
  pub was : w.part.was ≡ v.part.was
  pub matches : Matches turns v.opened v.part.was number reports w.part.dones
