-- What the private functions promise that recheck a journal: how a core makes entries, one after another.
use Rattle.std.specs.Prelude.{◌≡◌, ◌≢◌, ◌⊎◌, ℕ, List}
use Rattle.kw_base.specs.declared.fault.Fault.{Fault}
use Rattle.one_rule.specs.Cycle.{system_of}
use Rattle.one_rule.specs.Run.{run}
use Rattle.one_rule.specs.Stimulus.{inputs_of}
use Rattle.one_rule.specs.declared.rows.Row.{Row}
use Rattle.attempt_log.specs.declared.entry.Entry.{Entry}
use Rattle.board_core.specs.Board.{Board, Opening, step}
use Rattle.board_core.specs.History.{SubmitsFor, Told, board_after, event_of, told_by, told_of}
use Rattle.board_core.specs.Kept.{Kept, StandsFor}
use Rattle.board_core.specs.Laws.{IsTraced}
use Rattle.board_core.specs.declared.event.BoardEvent.{BoardEvent}
use Rattle.journal_check.specs.Checking.{at_line}

-- the core is the one that the history leaves
pub record Leaves (o : Opening) (log : List Entry) (k : Kept) : Type 0 where
  pub opening : k.opening ≡ o
  pub stands : StandsFor k (board_after o log)

-- the core makes an event with this answer
pub record Answers (old : Kept) (e : BoardEvent) (told : Told) (new : Kept) : Type 0 where
  pub opening : new.opening ≡ old.opening
  pub step : (board : Board) → StandsFor old board → let next = step old.opening board e in (told ≡ told_of next.answer) × StandsFor new next.board

-- the board gives another answer to the event
abbrev pub AnswersOtherwise : Kept → BoardEvent → Told → Type 0
AnswersOtherwise old e told = (board : Board) → StandsFor old board → told ≢ told_of (step old.opening board e).answer

-- the core makes the event of an entry, whose attempt is one for the board, and answers as the entry says
pub record Makes (old : Kept) (e : Entry) (new : Kept) : Type 0 where
  pub attempt : SubmitsFor old.opening (event_of old.opening.design e)
  pub answers : Answers old (event_of old.opening.design e) (told_by e) new

-- what is wrong with an entry where the core is, by the number of the fault
abbrev pub IsWrongAt : Kept → Entry → ℕ → Type 0
IsWrongAt old e number =
    ((number ≡ 81) × (IsTraced old.opening e → ⊥))
    ⊎ ((number ≡ 82) × IsTraced old.opening e × AnswersOtherwise old (event_of old.opening.design e) (told_by e))

-- the fault of a wrong entry on this line
abbrev pub IsFaultAt : Kept → Entry → ℕ → Fault → Type 0
IsFaultAt old e line fault = (number : ℕ) × (fault ≡ at_line number line) × IsWrongAt old e number

-- the rows of the run of an opening
abbrev pub run_in : Opening → List Row
run_in o = run (system_of o.design) (inputs_of o.stimulus) o.regs o.from o.to
