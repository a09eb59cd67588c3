-- What a seat notes of its own entries, with their receipts' places.
use Rattle.std.specs.Prelude.{◌≡◌, ℕ, ◌%◌, ◌^◌, ◌≤◌, ◌+◌, List, [], ◌∷◌, ◌++◌, map, length}
use Rattle.attempt_log.specs.Attempt.{Attempted}
use Rattle.attempt_log.specs.declared.entry.Entry.{Entry}
use Rattle.board_lock.specs.declared.room.Copied.{Copied}
use Rattle.board_lock.specs.declared.notes.Note.{Note}
use Rattle.board_lock.specs.inner.Notes.{noted}
use Rattle.board_core.specs.Board.{Opening}
use Rattle.board_lock.specs.Histories.{Each, InRun, StartsWith, by}
use Rattle.board_lock.specs.declared.view.Done.{Done}

-- with the place that a receipt has
abbrev pub wrapped : Note → Note
wrapped n = record { place = n.place % 2 ^ 64; entry = n.entry }

-- the receipts of a number's entries in a history
abbrev pub receipts : ℕ → List Entry → List Note
receipts n h = map wrapped (noted n 0 h)

-- a joined seat has seen all entries of its number in the history, and noted them; they are few
abbrev pub HasNoted : List Entry → ℕ → List Note → Type 0
HasNoted h n notes = (seen : List Entry) × StartsWith h seen × (by n h ≡ by n seen) × (notes ≡ receipts n seen) × (length (by n h) ≤ 2 ^ 57)

-- the lists are the notes of joined seats, the first of this number; their own entries are for cycles that the board
-- runs
abbrev pub Noting : Opening → ℕ → List (List Note) → List Done → Type 0
Noting o n [] [] = Unit {0}
Noting o n [] (d ∷ ds) = ⊥
Noting o n (l ∷ ls) [] = ⊥
Noting o n (l ∷ ls) (d ∷ ds) = (l ≡ receipts n d.seen) × (d.worker ≡ n) × (by n d.seen ≡ by n d.base ++ d.own) × Each (InRun o) d.own × Noting o (n + 1) ls ds

-- what was copied of an attempt
pub record IsCopy (a : Attempted) (c : Copied) : Type 0 where
  pub cycle : c.cycle ≡ a.cycle
  pub rule : c.rule ≡ a.rule
  pub inputs : c.inputs ≡ a.inputs
  pub events : c.events ≡ a.run.events
  pub outcome : c.outcome ≡ a.run.outcome
