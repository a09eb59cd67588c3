-- What private functions alone cite of this crate's `Histories`.
use Rattle.std.specs.Prelude.{ℕ, List}
use Rattle.attempt_log.specs.declared.entry.Entry.{Entry}
use Rattle.board_core.specs.Board.{Opening}
use Rattle.board_core.specs.History.{IsLegal}
use Rattle.board_core.specs.Kept.{Kept}
use Rattle.board_lock.specs.Histories.{Each, InRun, IsPast, Leaves}
use Rattle.koika_top.specs.Histories.{AreBy}

-- what was done so far, which left this core
pub record IsRecord (worker : ℕ) (entries : List Entry) (core : Kept) : Type 0 where
  pub legal : IsLegal core.opening entries
  pub leaves : Leaves core.opening entries core
  pub by : AreBy worker entries
  pub in_run : Each (InRun core.opening) entries

-- what was done in all: the last cycle is closed
pub record IsWhole (worker : ℕ) (o : Opening) (entries : List Entry) : Type 0 where
  pub legal : IsLegal o entries
  pub closes : IsPast o entries
  pub by : AreBy worker entries
  pub in_run : Each (InRun o) entries
