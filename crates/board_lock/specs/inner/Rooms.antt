-- How many events a rule can make, and the room that a seat keeps for those of the attempt at its last job. A rule
-- makes at most as many events as its body has reads and writes, since Kôika's actions (Bourgeat et al., PLDI 2020) have
-- no loop.
use Rattle.std.specs.Prelude.{◌≡◌, ℕ, ◌+◌, ◌-◌, ◌^◌, ◌≤◌, List, [], Option, Some, None, Result, Ok, Err, min, slice_get}
use Rattle.std.specs.Arc.{arc_value}
use Rattle.kw_bits.specs.declared.memory.NoMemory.{NoMemory}
use Rattle.kw_bits.specs.BitVector.{BitVector}
use Rattle.typed_core.specs.declared.action.Action.{Action}
use Rattle.typed_core.specs.declared.action.Action.TheVariants as action
use Rattle.typed_core.specs.declared.design.Parts.{Parts}
use Rattle.typed_core.specs.declared.design.Rule.{Rule}
use Rattle.one_rule.specs.Stimulus.{inputs_of}
use Rattle.attempt_log.specs.Setting.{DesignAndStimulus}
use Rattle.attempt_log.specs.declared.job.JobAnswer.{JobAnswer}
use Rattle.attempt_log.specs.declared.job.JobAnswer.TheVariants as answer
use Rattle.attempt_log.specs.declared.seat.Task.{Task}
use Rattle.board_lock.specs.declared.room.Room.{Room}

-- how many reads and writes an action has, those of both arms of an `If` together
abbrev pub accesses : Action → ℕ
accesses action.Unit = 0
accesses (action.Const value) = 0
accesses (action.Local name) = 0
accesses (action.Input input) = 0
accesses (action.One' operator p a) = accesses a
accesses (action.Two' operator p a q b) = accesses a + accesses b
accesses (action.Slice' p a upper lower) = accesses a
accesses (action.Zext' p a width) = accesses a
accesses (action.Sext' p a width) = accesses a
accesses (action.Table' table p a) = accesses a
accesses (action.Host' host p a) = accesses a
accesses (action.Let' p value q body) = accesses value + accesses body
accesses (action.If' p condition q first r second) = accesses condition + accesses first + accesses second
accesses (action.Seq' p first q second) = accesses first + accesses second
accesses (action.Read port register) = 1
accesses (action.Write' port register p a) = accesses a + 1
accesses action.Abort = 0

-- those of a rule's body, if there is a rule
abbrev pub rule_accesses : Option Rule → ℕ
rule_accesses None = 0
rule_accesses (Some rule) = accesses rule.body

-- those of the design's rule of this number, but at most the largest number that a length can have
abbrev pub most_events : Parts → ℕ → ℕ
most_events design rule = min (rule_accesses (slice_get design.rules rule)) (2 ^ 64 - 1)

-- these inputs, and memory for the events of the design's rule of this number, of which there is none yet
pub record IsRoom (design : Parts) (rule : ℕ) (given : List BitVector) (r : Room) : Type 0 where
  pub inputs : r.inputs ≡ given
  pub empty : r.events.items ≡ []
  pub wide : most_events design rule ≤ r.events.capacity

-- the room is for an attempt at the task
abbrev pub IsRoomFor : DesignAndStimulus → Task → Room → Type 0
IsRoomFor s t r = IsRoom s.design t.rule (inputs_of s.stimulus t.cycle) r

-- what room there is, is for an attempt at the last task
abbrev pub FitsTask : DesignAndStimulus → Option Task → Option Room → Type 0
FitsTask s task room = (r : Room) (t : Task) → room ≡ Some r → task ≡ Some t → IsRoomFor s t r

-- there is room for the attempt that does a job
abbrev pub HasRoom : Option Room → Parts → ℕ → List BitVector → Type 0
HasRoom room design rule inputs = (r : Room) × (room ≡ Some r) × IsRoom design rule inputs r

-- there is room where the answer is a job, for the attempt at it, and else none
abbrev pub RoomOf : Result JobAnswer NoMemory → Option Room → Type 0
RoomOf (Ok (answer.Job job)) room = HasRoom room (arc_value job.design) job.rule job.inputs
RoomOf (Ok answer.Idle) room = room ≡ None
RoomOf (Ok answer.Finished) room = room ≡ None
RoomOf (Err e) room = room ≡ None
