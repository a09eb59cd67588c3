-- The board: it takes attempts at rules in any order, and settles them one at a time in scheduler order, as rules of
-- Kôika run one at a time (Bourgeat et al., PLDI 2020), each after a validation (Kung and Robinson, TODS 1981). It says
-- nothing of who makes attempts, nor of how they are kept.
use Rattle.std.specs.Prelude.{ℕ, ◌+◌, Bool, ◌==◌, ◌&&◌, ◌||◌, nat_le, nat_lt, List, [], ◌∷◌, ◌++◌, length, Option, Some, None, slice_get, if◌then◌else◌, is_some}
use Rattle.kw_bits.specs.BitVector.{BitVector}
use Rattle.typed_core.specs.declared.design.Next.{Next}
use Rattle.typed_core.specs.declared.design.Next.TheVariants as next
use Rattle.typed_core.specs.declared.design.Node.{Node}
use Rattle.typed_core.specs.declared.design.Parts.{Parts}
use Rattle.one_rule.specs.Cycle.{begin, flags, is_among, join, numbers}
use Rattle.one_rule.specs.Run.{opening}
use Rattle.one_rule.specs.Stimulus.{InputVectors}
use Rattle.one_rule.specs.Walk.{Walk, start}
use Rattle.one_rule.specs.declared.cycle.State.{State}
use Rattle.one_rule.specs.declared.rows.Row.{Row}
use Rattle.attempt_log.specs.Attempt.{Attempted}
use Rattle.attempt_log.specs.Setting.{DesignAndStimulus, at_design}
use Rattle.attempt_log.specs.Verdict.{verdict}
use Rattle.attempt_log.specs.declared.cause.Verdict.{Verdict}
use Rattle.attempt_log.specs.declared.cause.Verdict.TheVariants.{Commit, Skip, Stale}
use Rattle.attempt_log.specs.declared.entry.Settled.TheVariants as settled
use Rattle.attempt_log.specs.declared.entry.Submitted.TheVariants as submitted
use Rattle.board_core.specs.declared.event.BoardAnswer.{BoardAnswer}
use Rattle.board_core.specs.declared.event.BoardAnswer.TheVariants as answer
use Rattle.board_core.specs.declared.event.BoardEvent.{BoardEvent}
use Rattle.board_core.specs.declared.event.BoardEvent.TheVariants as event

-- ---- boards

-- what a board is begun with: registers that cycle `from` left, the last cycle, and how many cycles may be ahead
pub record Opening : Type 0 where
  pub design : Parts
  pub stimulus : InputVectors
  pub regs : List BitVector
  pub from : ℕ
  pub to : ℕ
  pub window : ℕ

-- the design and the stimulus
abbrev pub setting_of : Opening → DesignAndStimulus
setting_of o = record { design = o.design; stimulus = o.stimulus }

-- the stored attempts, by cycle and rule
abbrev pub Slots : Type 0
Slots = ℕ → ℕ → Option Attempted

-- the current cycle, the registers and the rules that fired in it and its head, the rules that are settled in it, the
-- rows of the cycles that are closed, and the stored attempts
pub record Board : Type 0 where
  pub cycle : ℕ
  pub walk : Walk State
  pub settled : List ℕ
  pub rows : List Row
  pub slots : Slots

-- a board opens before the first cycle, with one row
abbrev pub opened : Opening → Board
opened o =
    record {
      cycle = o.from + 1;
      walk = start o.design.nodes (begin o.regs);
      settled = [];
      rows = opening (length o.design.rules) o.regs ∷ [];
      slots = λ cycle rule. None;
    }

-- the node that a walk is at, if it isn't at the end
abbrev pub node_at : List Node → Next → Option Node
node_at nodes (next.Node number) = slice_get nodes number
node_at nodes next.End = None

-- the node of the head
abbrev pub head : Opening → Board → Option Node
head o board = node_at o.design.nodes board.walk.at

-- an attempt stands for the cycle and the rule
abbrev pub stands : Board → ℕ → ℕ → Bool
stands board cycle rule = is_some (board.slots cycle rule)

-- the slots with another content of one
abbrev pub with_slot : Slots → ℕ → ℕ → Option Attempted → Slots
with_slot slots cycle rule held = λ c r. if (c == cycle) && (r == rule) then held else slots c r

-- the slots with none of a cycle
abbrev pub without : Slots → ℕ → Slots
without slots cycle = λ c r. if c == cycle then None else slots c r

-- ---- steps

-- what is answered to an event, and the board after it
pub record BoardStep : Type 0 where
  pub answer : BoardAnswer
  pub board : Board

-- the board answers, and is as before
abbrev pub stays : Board → BoardAnswer → BoardStep
stays board answer = record { answer = answer; board = board }

-- the cycle is closed, or the rule is settled in it
abbrev pub is_past : Board → ℕ → ℕ → Bool
is_past board cycle rule = nat_lt cycle board.cycle || ((cycle == board.cycle) && is_among board.settled rule)

-- the cycle is past the window, or past the last one
abbrev pub is_beyond : Opening → Board → ℕ → Bool
is_beyond o board cycle = nat_le (board.cycle + o.window) cycle || nat_lt o.to cycle

-- the attempt comes when its rule is done with
abbrev pub is_late : Board → Attempted → Bool
is_late board a = is_past board a.cycle a.rule

-- it comes too early
abbrev pub is_ahead : Opening → Board → Attempted → Bool
is_ahead o board a = is_beyond o board a.cycle

-- the attempt stands, as one at the board's own design
abbrev pub stored : Opening → Board → Attempted → Board
stored o board a = record board { slots = with_slot board.slots a.cycle a.rule (Some (at_design o.design a)) }

-- an attempt is submitted
abbrev pub submit : Opening → Board → Attempted → BoardStep
submit o board a =
    if is_late board a then stays board (answer.Submit (submitted.Late a))
    else if is_ahead o board a then stays board (answer.Submit (submitted.Ahead a))
    else if stands board a.cycle a.rule then stays board (answer.Submit (submitted.Twice a))
    else record { answer = answer.Submit submitted.Stored; board = stored o board a }

-- the row that the cycle leaves
abbrev pub row_of : Opening → Board → Row
row_of o board = record { regs = board.walk.state.regs; fired = flags (length o.design.rules) (numbers board.walk.state.past) }

-- the cycle is closed: its row is added, and the next one begins on its registers
abbrev pub closed : Opening → Board → Board
closed o board =
    record {
      cycle = board.cycle + 1;
      walk = start o.design.nodes (begin board.walk.state.regs);
      settled = [];
      rows = board.rows ++ row_of o board ∷ [];
      slots = without board.slots board.cycle;
    }

-- the board without the attempt at a rule of the current cycle
abbrev pub dropped : Board → ℕ → Board
dropped board rule = record board { slots = with_slot board.slots board.cycle rule None }

-- the rule is settled: the cycle is come so far, and the attempt is dropped
abbrev pub settled_by : Board → ℕ → Walk State → Board
settled_by board rule walk = record (dropped board rule) { walk = walk; settled = board.settled ++ rule ∷ [] }

-- the attempt at the rule of the head is judged
abbrev pub judged : Board → Node → Attempted → Verdict → BoardStep
judged board node a Commit =
    record {
      answer = answer.Settle (settled.Committed board.cycle node.rule);
      board = settled_by board node.rule (record { state = join board.walk.state node.rule a.run.events; at = node.yes });
    }
judged board node a (Skip cause) =
    record {
      answer = answer.Settle (settled.Skipped board.cycle node.rule cause);
      board = settled_by board node.rule (record { state = board.walk.state; at = node.no });
    }
judged board node a (Stale read) =
    record { answer = answer.Settle (settled.Stale board.cycle node.rule read); board = dropped board node.rule }

-- the rule of the head is settled with the attempt that stands for it, if one does
abbrev pub settle_with : Board → Node → Option Attempted → BoardStep
settle_with board node None = stays board (answer.Settle (settled.Waiting board.cycle node.rule))
settle_with board node (Some a) = judged board node a (verdict board.walk.state.regs board.walk.state.past a.run)

-- the head is settled; at the end the cycle is closed
abbrev pub settle_at : Opening → Board → Option Node → BoardStep
settle_at o board None = record { answer = answer.Settle (settled.CycleClosed board.cycle); board = closed o board }
settle_at o board (Some node) = settle_with board node (board.slots board.cycle node.rule)

-- the board is to settle what it can
abbrev pub settle : Opening → Board → BoardStep
settle o board =
    if nat_lt o.to board.cycle then stays board (answer.Settle settled.Finished)
    else settle_at o board (head o board)

-- the board step
abbrev pub step : Opening → Board → BoardEvent → BoardStep
step o board (event.Submit a) = submit o board a
step o board event.Settle = settle o board

-- ---- runs

-- the answers to events in order, and the board after them
pub record BoardRun : Type 0 where
  pub answers : List BoardAnswer
  pub board : Board

-- a board run
abbrev pub run_events : Opening → Board → List BoardEvent → BoardRun
run_events o board [] = record { answers = []; board = board }
run_events o board (e ∷ events) =
    let first = step o board e in
    let rest = run_events o first.board events in
    record { answers = first.answer ∷ rest.answers; board = rest.board }
