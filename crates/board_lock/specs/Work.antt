-- What is known after workers have worked at a board: of each seat, and of the board's own.
use Rattle.std.specs.Prelude.{◌≡◌, ℕ, ◌*◌, ◌≤◌, List, [], ◌++◌, length}
use mathlib.Core.Option.{some}
use lib.ListN.{get_elem?}
use Rattle.attempt_log.specs.declared.entry.Entry.{Entry}
use Rattle.board_core.specs.History.{IsLegal}
use Rattle.attempt_log.specs.declared.report.Report.{Report}
use Rattle.attempt_log.specs.declared.report.Ending.TheVariants as ending
use Rattle.spec_worker.specs.Work.{Counted}
use Rattle.board_lock.specs.Histories.{IsPast, StartsWith, by}
use Rattle.board_lock.specs.declared.view.Done.{Done}
use Rattle.board_lock.specs.declared.view.View.{View}

-- what is added of a worker has as many entries of each kind as its report says. It made no more turns than it was given,
-- with Turns all of them, and with Finished the board that the history leaves is past its last cycle. Its seat was split
-- off where `base` had been seen, its last history begins this one, and its own entries are the added ones of its number
pub record ReportFits (turns i : ℕ) (base added : List Entry) (w : View) (r : Report) : Type 0 where
  pub worker : r.worker ≡ i
  pub counted : Counted (by i added) r.submitted r.settled r.turns
  pub made : r.turns ≤ turns
  pub all_turns : r.ending ≡ ending.Turns → r.turns ≡ turns
  pub finished : r.ending ≡ ending.Finished → IsPast w.opened w.seen
  pub few : length (by i added) ≤ 2 * turns
  pub done : (d : Done) × (get_elem? w.part.dones i ≡ some d) × (d.own ≡ by i added) × StartsWith w.seen d.seen × (d.worker ≡ i) × (d.base ≡ base) × StartsWith d.seen d.base

-- the history is legal and goes on from what was seen. What is added has of each worker the entries that its report
-- counts, and none of other numbers
pub record Told (turns count : ℕ) (v w : View) (reports : List Report) : Type 0 where
  pub legal : IsLegal w.opened w.seen
  pub added : List Entry
  pub seen : w.seen ≡ v.seen ++ added
  pub each : (i : ℕ) (r : Report) → get_elem? reports i ≡ some r → ReportFits turns i v.seen added w r
  pub others : (n : ℕ) → count ≤ n → by n added ≡ []

-- there is a report of each worker, and they tell so
abbrev pub Worked : ℕ → ℕ → View → View → List Report → Type 0
Worked turns count v w reports = Told turns count v w reports × (length reports ≡ count)

-- the same where the reports themselves are lost
abbrev pub HaveWorked : ℕ → ℕ → View → View → Type 0
HaveWorked turns count v w = (reports : List Report) × Worked turns count v w reports
