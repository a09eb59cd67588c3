-- Legal histories: calls of a board with their answers, as in a linear history (Herlihy and Wing, TOPLAS 1990). It
-- doesn't say which worker makes which call.
use Rattle.std.specs.Prelude.{◌≡◌, List, map}
use Rattle.std.specs.List.{AllByRecursion}
use Rattle.typed_core.specs.declared.design.Parts.{Parts}
use Rattle.attempt_log.specs.Attempt.{Attempted, IsAttempt}
use Rattle.attempt_log.specs.Entries.{taken_of}
use Rattle.attempt_log.specs.Setting.{IsFor}
use Rattle.attempt_log.specs.declared.entry.Entry.{Entry}
use Rattle.attempt_log.specs.declared.entry.Entry.TheVariants as entry
use Rattle.attempt_log.specs.declared.entry.Settled.{Settled}
use Rattle.attempt_log.specs.declared.entry.Taken.{Taken}
use Rattle.board_core.specs.Board.{Board, Opening, opened, run_events, setting_of, step}
use Rattle.board_core.specs.declared.event.BoardAnswer.{BoardAnswer}
use Rattle.board_core.specs.declared.event.BoardAnswer.TheVariants as answer
use Rattle.board_core.specs.declared.event.BoardEvent.{BoardEvent}
use Rattle.board_core.specs.declared.event.BoardEvent.TheVariants as event

-- an answer without the attempt that it hands back
pub data Told : Type 0 where
  Submit : (taken : Taken) → Told
  Settle : (settled : Settled) → Told

-- what a board's answer tells
abbrev pub told_of : BoardAnswer → Told
told_of (answer.Submit s) = Submit (taken_of s)
told_of (answer.Settle s) = Settle s

-- the event of an entry on the board of a design, and its answer
abbrev pub event_of : Parts → Entry → BoardEvent
event_of design (entry.Submit worker cycle rule inputs events outcome answer) =
    event.Submit (record { design = design; cycle = cycle; rule = rule; inputs = inputs; run = record { events = events; outcome = outcome } })
event_of design (entry.Settle worker answer) = event.Settle

-- what an entry says that a call was told
abbrev pub told_by : Entry → Told
told_by (entry.Submit worker cycle rule inputs events outcome answer) = Submit answer
told_by (entry.Settle worker answer) = Settle answer

-- an attempt that is submitted is one for the board
pub record IsAttemptFor (o : Opening) (a : Attempted) : Type 0 where
  pub attempt : IsAttempt a
  pub is_for : IsFor (setting_of o) a

-- an event submits an attempt for this board's design and stimulus, or settles
abbrev pub SubmitsFor : Opening → BoardEvent → Type 0
SubmitsFor o (event.Submit a) = IsAttemptFor o a
SubmitsFor o event.Settle = Unit {0}

-- the events of a history, the answers of the board of this opening to them, and the board after them
abbrev pub events_of : Opening → List Entry → List BoardEvent
events_of o entries = map (event_of o.design) entries

-- a board's answers to the calls of entries
abbrev pub answers_after : Opening → List Entry → List BoardAnswer
answers_after o entries = (run_events o (opened o) (events_of o entries)).answers

-- the board that the calls of entries leave
abbrev pub board_after : Opening → List Entry → Board
board_after o entries = (run_events o (opened o) (events_of o entries)).board

-- a legal history of the board of this opening
pub record IsLegal (o : Opening) (entries : List Entry) : Type 0 where
  pub attempts : AllByRecursion (SubmitsFor o) (events_of o entries)
  pub answers : map told_by entries ≡ map told_of (answers_after o entries)

-- an entry goes on from a history: its attempt is for the board, and its answer is that of the board after the history
pub record GoesOn (o : Opening) (entries : List Entry) (e : Entry) : Type 0 where
  pub attempt : SubmitsFor o (event_of o.design e)
  pub answer : told_by e ≡ told_of (step o (board_after o entries) (event_of o.design e)).answer
