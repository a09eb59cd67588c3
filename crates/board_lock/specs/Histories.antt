-- Linear histories (Herlihy and Wing, TOPLAS 1990) of a board behind a lock: whose entry each is, how one begins
-- another, and which core a history leaves.
use Rattle.std.specs.Prelude.{◌≡◌, ◌<◌, ◌≤◌, ℕ, true, List, ◌++◌, Some, slice_get}
use Rattle.attempt_log.specs.Entries.{entries_by, is_submit}
use Rattle.attempt_log.specs.declared.entry.Entry.{Entry}
use Rattle.attempt_log.specs.declared.entry.Entry.TheVariants as entry
use Rattle.board_core.specs.Board.{Opening}
use Rattle.board_core.specs.History.{board_after}
use Rattle.board_core.specs.Kept.{Kept, StandsFor}

-- the entries of a worker, in order
abbrev pub by : ℕ → List Entry → List Entry
by n log = entries_by n log

-- the second begins the first
abbrev pub StartsWith : List Entry → List Entry → Type 0
StartsWith log seen = (rest : List Entry) × (log ≡ seen ++ rest)

-- the core is the one that the history leaves
pub record Leaves (o : Opening) (log : List Entry) (k : Kept) : Type 0 where
  pub opening : k.opening ≡ o
  pub stands : StandsFor k (board_after o log)

-- the board that the history leaves is past its last cycle
abbrev pub IsPast : Opening → List Entry → Type 0
IsPast o log = o.to < (board_after o log).cycle

-- a cycle that the board runs
abbrev pub IsCycle : Opening → ℕ → Type 0
IsCycle o cycle = (o.from < cycle) × (cycle ≤ o.to)

-- the cycle that an entry submits for
abbrev pub cycle_of : Entry → ℕ
cycle_of (entry.Submit worker cycle rule inputs events outcome answer) = cycle
cycle_of (entry.Settle worker answer) = 0

-- an entry that submits does so for a cycle that the board runs
abbrev pub InRun : Opening → Entry → Type 0
InRun o e = is_submit e ≡ true → IsCycle o (cycle_of e)

-- it holds of each of these entries
abbrev pub Each : (Entry → Type 0) → List Entry → Type 0
Each P entries = (i : ℕ) (e : Entry) → slice_get entries i ≡ Some e → P e
