-- What holds of every board run: speculation doesn't show. Attempts that are made on any registers and settled one at a
-- time leave the run of whole rules (Bourgeat et al., PLDI 2020).
use Rattle.std.specs.Prelude.{◌≡◌, ◌≢◌, ◌↔◌, ℕ, ◌<◌, ◌≤◌, true, false, List, [], ◌∷◌, ◌++◌, length, map, Some, None, Bool}
use Rattle.std.specs.List.{AllByRecursion}
use Rattle.typed_core.specs.declared.design.Node.{Node}
use Rattle.one_rule.specs.Cycle.{fires, system_of}
use Rattle.one_rule.specs.Run.{run}
use Rattle.one_rule.specs.Stimulus.{inputs_of}
use Rattle.attempt_log.specs.Attempt.{Attempted}
use Rattle.attempt_log.specs.Entries.{goes_on}
use Rattle.attempt_log.specs.Setting.{IsFor, at_design, attempt_of}
use Rattle.attempt_log.specs.Trace.{IsTrace}
use Rattle.attempt_log.specs.declared.entry.Submitted.TheVariants as submitted
use Rattle.attempt_log.specs.declared.job.Job.{Job}
use Rattle.attempt_log.specs.declared.job.JobAnswer.{JobAnswer}
use Rattle.attempt_log.specs.declared.job.JobAnswer.TheVariants as jobs
use Rattle.attempt_log.specs.declared.entry.Entry.{Entry}
use Rattle.attempt_log.specs.declared.entry.Entry.TheVariants as entry
use Rattle.attempt_log.specs.declared.entry.Settled.{Settled}
use Rattle.attempt_log.specs.declared.entry.Settled.TheVariants as settled
use Rattle.attempt_log.specs.declared.cause.StaleRead.{StaleRead}
use Rattle.board_core.specs.Board.{Board, Opening, head, is_ahead, is_late, opened, run_events, setting_of, settle, stands, step, submit}
use Rattle.board_core.specs.Candidates.{Chooses}
use Rattle.board_core.specs.History.{GoesOn, IsLegal, SubmitsFor, answers_after, board_after, event_of, told_by, told_of}
use Rattle.board_core.specs.Position.{IsOpening, IsPlain, steps_left}
use Rattle.board_core.specs.declared.event.BoardAnswer.{BoardAnswer}
use Rattle.board_core.specs.declared.event.BoardAnswer.TheVariants as answer
use Rattle.board_core.specs.declared.event.BoardEvent.{BoardEvent}
use Rattle.board_core.specs.declared.event.BoardEvent.TheVariants as event

-- every list of events keeps a plain position, and the first rows of the run
abbrev pub KeepsPlain : Type 0
KeepsPlain = (o : Opening) (events : List BoardEvent) → IsOpening o → AllByRecursion (SubmitsFor o) events → IsPlain o (run_events o (opened o) events).board

-- a board that is past its last cycle has the rows of the whole run
abbrev pub EndsWithRun : Type 0
EndsWithRun = (o : Opening) (board : Board) → IsPlain o board → o.to < board.cycle → board.rows ≡ run (system_of o.design) (inputs_of o.stimulus) o.regs o.from o.to

-- whether the rule fires on the registers of the board, after the rules that fired
abbrev pub fires_now : Opening → Board → ℕ → Bool
fires_now o board rule =
    let state = board.walk.state in
    fires state.past ((system_of o.design).alone rule (inputs_of o.stimulus board.cycle) state.regs)

-- a rule that is committed fires in the cycle, where the walk is; one that is skipped doesn't
abbrev pub TellsFiring : Opening → Board → Settled → Type 0
TellsFiring o board (settled.Committed cycle rule) = (cycle ≡ board.cycle) × (fires_now o board rule ≡ true)
TellsFiring o board (settled.Skipped cycle rule cause) = (cycle ≡ board.cycle) × (fires_now o board rule ≡ false)
TellsFiring o board (settled.Stale cycle rule read) = Unit {0}
TellsFiring o board (settled.CycleClosed cycle) = Unit {0}
TellsFiring o board (settled.Waiting cycle rule) = Unit {0}
TellsFiring o board settled.Finished = Unit {0}

abbrev pub SettlesByFiring : Type 0
SettlesByFiring = (o : Opening) (board : Board) (told : Settled) → IsOpening o → IsPlain o board → (settle o board).answer ≡ answer.Settle told → TellsFiring o board told

-- the attempt at the rule of the head that is made on the board's registers
abbrev pub head_attempt : Opening → Board → Node → Attempted
head_attempt o board node =
    let inputs = inputs_of o.stimulus board.cycle in
    record {
      design = o.design;
      cycle = board.cycle;
      rule = node.rule;
      inputs = inputs;
      run = (system_of o.design).alone node.rule inputs board.walk.state.regs;
    }

-- submitted where none stands, and settled next, it is never stale
abbrev pub HeadNeverStale : Type 0
HeadNeverStale = (o : Opening) (board : Board) (node : Node) (cycle rule : ℕ) (read : StaleRead) → IsOpening o → IsPlain o board → head o board ≡ Some node → board.slots board.cycle node.rule ≡ None
    → (settle o (submit o board (head_attempt o board node)).board).answer ≢ answer.Settle (settled.Stale cycle rule read)

-- the answer is that a rule was committed or skipped
abbrev pub IsRuleSettled : BoardAnswer → Type 0
IsRuleSettled (answer.Submit s) = ⊥
IsRuleSettled (answer.Settle (settled.Committed cycle rule)) = Unit {0}
IsRuleSettled (answer.Settle (settled.Skipped cycle rule cause)) = Unit {0}
IsRuleSettled (answer.Settle (settled.Stale cycle rule read)) = ⊥
IsRuleSettled (answer.Settle (settled.CycleClosed cycle)) = ⊥
IsRuleSettled (answer.Settle (settled.Waiting cycle rule)) = ⊥
IsRuleSettled (answer.Settle settled.Finished) = ⊥

-- up to the last cycle, submitted where none stands, it is stored; settled next, it is committed or skipped
abbrev pub HeadSettles : Type 0
HeadSettles = (o : Opening) (board : Board) (node : Node) → IsOpening o → IsPlain o board → 1 ≤ o.window → board.cycle ≤ o.to → head o board ≡ Some node → board.slots board.cycle node.rule ≡ None
    → let handed = submit o board (head_attempt o board node) in (handed.answer ≡ answer.Submit submitted.Stored) × IsRuleSettled (settle o handed.board).answer

-- where none stands for the head, the job of pick 0 is the head's, and the attempt that does it is the one above
abbrev pub HeadComesFirst : Type 0
HeadComesFirst = (o : Opening) (board : Board) (node : Node) (told : JobAnswer) → board.cycle ≤ o.to → head o board ≡ Some node → board.slots board.cycle node.rule ≡ None → Chooses o board 0 told
    → (job : Job) × (told ≡ jobs.Job job) × (attempt_of job ≡ head_attempt o board node)

-- an attempt comes late, or ahead, or twice, and never two of these
abbrev pub RefusalsExclude : Type 0
RefusalsExclude = (o : Opening) (board : Board) (a : Attempted) → 1 ≤ o.window → IsPlain o board
    → (is_late board a ≡ true → (is_ahead o board a ≡ false) × (stands board a.cycle a.rule ≡ false)) × (is_ahead o board a ≡ true → stands board a.cycle a.rule ≡ false)

-- ---- what is left to do

abbrev pub left_of : Opening → Board → ℕ
left_of o board = steps_left o board.cycle board.walk.at

-- a settle with which the board goes on lowers what is left, and no other event changes it
abbrev pub GoingOnLowers : Type 0
GoingOnLowers = (o : Opening) (board : Board) (told : Settled) → IsOpening o → IsPlain o board → (settle o board).answer ≡ answer.Settle told
    → (goes_on told ≡ true → left_of o (settle o board).board < left_of o board) × (goes_on told ≡ false → left_of o (settle o board).board ≡ left_of o board)

abbrev pub SubmitsKeep : Type 0
SubmitsKeep = (o : Opening) (board : Board) (a : Attempted) → left_of o (submit o board a).board ≡ left_of o board

-- ---- histories

-- an attempt is taken as the same attempt at the board's own design is
abbrev pub SubmitsAlike : Type 0
SubmitsAlike = (o : Opening) (board : Board) (a : Attempted)
    → (told_of (submit o board (at_design o.design a)).answer ≡ told_of (submit o board a).answer) × ((submit o board (at_design o.design a)).board ≡ (submit o board a).board)

-- What is submitted is for the board where it is a trace of a rule, at an equal design and on the stimulus's inputs:
-- that inputs and events fit follows.
abbrev pub TracesSubmit : Type 0
TracesSubmit = (o : Opening) (a : Attempted) → IsOpening o → IsFor (setting_of o) a → a.rule < length a.design.rules → IsTrace a.design a.rule a.inputs a.run → SubmitsFor o (event.Submit a)

-- what an entry submits is a trace of a rule of the board's design, with the stimulus's inputs for its cycle
abbrev pub IsTraced : Opening → Entry → Type 0
IsTraced o (entry.Submit worker cycle rule inputs events outcome answer) =
    (rule < length o.design.rules) × (inputs ≡ inputs_of o.stimulus cycle) × IsTrace o.design rule inputs (record { events = events; outcome = outcome })
IsTraced o (entry.Settle worker answer) = Unit {0}

-- a history is legal exactly where these two hold: each attempt is such a trace, and the answers are the board's
abbrev pub LegalByTraces : Type 0
LegalByTraces = (o : Opening) (entries : List Entry) → IsOpening o → IsLegal o entries ↔ (AllByRecursion (IsTraced o) entries × (map told_by entries ≡ map told_of (answers_after o entries)))

-- a legal history goes on by an entry that the board after it answers so, and a front of a legal history is legal
abbrev pub LegalGoesOn : Type 0
LegalGoesOn = (o : Opening) (entries : List Entry) (e : Entry) → IsLegal o entries → GoesOn o entries e
    → IsLegal o (entries ++ e ∷ []) × (board_after o (entries ++ e ∷ []) ≡ (step o (board_after o entries) (event_of o.design e)).board)

abbrev pub FrontIsLegal : Type 0
FrontIsLegal = (o : Opening) (front back : List Entry) → IsLegal o (front ++ back) → IsLegal o front

-- a legal history leaves a board at a plain position
abbrev pub HistoriesArePlain : Type 0
HistoriesArePlain = (o : Opening) (entries : List Entry) → IsOpening o → IsLegal o entries → IsPlain o (board_after o entries)
