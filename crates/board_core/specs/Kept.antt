-- What a core keeps, and which board it represents. Of the rules that fired in the cycle it keeps what decides clashes,
-- and of the slots those of the window, a list for each cycle from the current one on.
use Rattle.std.specs.Prelude.{◌≡◌, ℕ, ◌-◌, ◌≤◌, nat_lt, Bool, true, false, List, [], length, Option, None, option_map, slice_index_or, if◌then◌else◌}
use Rattle.typed_core.specs.Widths.{register_widths}
use Rattle.typed_core.specs.declared.design.Parts.{Parts}
use Rattle.one_rule.specs.Cycle.{flags, numbers}
use Rattle.one_rule.specs.Walk.{Walk}
use Rattle.one_rule.specs.declared.cycle.State.{State}
use Rattle.one_rule.specs.declared.rows.Row.{Row}
use Rattle.attempt_log.specs.Attempt.{Attempted}
use Rattle.attempt_log.specs.Past as past
use Rattle.attempt_log.specs.Setting.{IsFor, at_design}
use Rattle.attempt_log.specs.declared.entry.Settled.{Settled}
use Rattle.attempt_log.specs.declared.entry.Settled.TheVariants as settled
use Rattle.attempt_log.specs.declared.entry.Submitted.TheVariants as submitted
use Rattle.board_core.specs.Board.{Board, Opening, Slots, BoardStep, run_events, setting_of}
use Rattle.board_core.specs.Position.{IsOpening, IsPlain, steps_left}
use Rattle.board_core.specs.declared.event.BoardAnswer.{BoardAnswer}
use Rattle.board_core.specs.declared.event.BoardAnswer.TheVariants as answer
use Rattle.board_core.specs.declared.event.BoardEvent.{BoardEvent}
use Rattle.board_core.specs.declared.event.BoardEvent.TheVariants as event
use Rattle.board_core.specs.declared.place.Place.{Place}

-- a core, as contracts see it
pub record Kept : Type 0 where
  pub opening : Opening
  pub cycle : ℕ
  pub place : Place
  pub rows : List Row
  pub slots : List (List (Option Attempted))

-- the stored attempts by lists of slots, the first for this cycle
abbrev pub slots_from : ℕ → List (List (Option Attempted)) → Slots
slots_from current lists cycle rule =
    if nat_lt cycle current then None else slice_index_or (slice_index_or lists (cycle - current) []) rule None

-- the place is that of the walk, and its flags tell which rules are settled
pub record IsAt (design : Parts) (place : Place) (walk : Walk State) (done : List ℕ) : Type 0 where
  pub at : place.at ≡ walk.at
  pub registers : place.regs ≡ walk.state.regs
  pub fired : place.fired.items ≡ flags (length design.rules) (numbers walk.state.past)
  pub past : past.StandsFor (register_widths design) place.past walk.state.past
  pub settled : place.settled.items ≡ flags (length design.rules) done

-- the core stands for the board
pub record StandsFor (kept : Kept) (board : Board) : Type 0 where
  pub cycle : kept.cycle ≡ board.cycle
  pub place : IsAt kept.opening.design kept.place board.walk board.settled
  pub rows : kept.rows ≡ board.rows
  pub slots : (cycle rule : ℕ) → option_map (at_design kept.opening.design) (slots_from kept.cycle kept.slots cycle rule) ≡ board.slots cycle rule

-- from an old core to a new one: the answer is the board step's, and the new one represents the board after it
abbrev pub Does : (Opening → Board → BoardStep) → Kept → BoardAnswer → Kept → Type 0
Does step old told new =
    (board : Board) → StandsFor old board → let next = step old.opening board in (told ≡ next.answer) × StandsFor new next.board

-- a list of events is answered by the answers of the board run, and the new core stands for the board after it
abbrev pub Runs : List BoardEvent → Kept → List BoardAnswer → Kept → Type 0
Runs events old answers new =
    (board : Board) → StandsFor old board → let run = run_events old.opening board events in (answers ≡ run.answers) × StandsFor new run.board

-- the core stands for a board at a plain position, and was begun on parts that fit
pub record AtPlain (kept : Kept) : Type 0 where
  pub opening : IsOpening kept.opening
  pub window : 1 ≤ kept.opening.window
  pub board : Board
  pub stands : StandsFor kept board
  pub plain : IsPlain kept.opening board

-- the answer is given where nothing could be done
abbrev pub is_still : Settled → Bool
is_still (settled.Committed cycle rule) = false
is_still (settled.Skipped cycle rule cause) = false
is_still (settled.Stale cycle rule read) = false
is_still (settled.CycleClosed cycle) = false
is_still (settled.Waiting cycle rule) = true
is_still settled.Finished = true

-- the answer is that the board stays as it is
abbrev pub leaves : BoardAnswer → Bool
leaves (answer.Submit submitted.Stored) = false
leaves (answer.Submit (submitted.Late a)) = true
leaves (answer.Submit (submitted.Ahead a)) = true
leaves (answer.Submit (submitted.Twice a)) = true
leaves (answer.Settle s) = is_still s

-- the core's measure of what is left to do
abbrev pub left : Kept → ℕ
left kept = steps_left kept.opening kept.cycle kept.place.at

-- what is asked of an event: an attempt has to be for the board
abbrev pub EventFits : Opening → BoardEvent → Type 0
EventFits o (event.Submit a) = IsFor (setting_of o) a
EventFits o event.Settle = Unit {0}
