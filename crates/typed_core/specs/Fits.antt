-- What fits a design's declarations: the environments that its actions can be evaluated in, the values that they come
-- to, the events that they note, and the ports that keep it so.
use Rattle.std.specs.Prelude.{◌≡◌, ℕ, ◌≤◌, ◌<◌, List, ◌++◌, slice_get, Some, All}
use Rattle.std.specs.List.{AllByRecursion}
use Rattle.kw_bits.specs.BitVector.{BitVector, IsBits}
use Rattle.kw_bits.specs.Laws.{HasWidth}
use Rattle.typed_core.specs.Evaluation.{Ending, Value, Stop, Progress, Evaluation, Environment, Ports}
use Rattle.typed_core.specs.Valid.{Declarations, IsHost, IsPort, IsTable, IsTyped, IsWidth}
use Rattle.typed_core.specs.Widths.{HaveWidths}
use Rattle.typed_core.specs.declared.access.Event.{Event}
use Rattle.typed_core.specs.declared.action.Action.{Action}

-- actions over the declarations can be evaluated in the environment
pub record EnvironmentFits (d : Declarations) (env : Environment) : Type 0 where
  pub registers : All IsWidth d.regs
  pub externs : env.externs ≡ d.externs
  pub tables : All IsTable d.externs.tables
  pub hosts : All IsHost d.externs.hosts
  pub inputs : HaveWidths d.inputs env.inputs

-- the action can be evaluated with these values of the names that are bound round it
abbrev pub CanEvaluate : Declarations → Action → List BitVector → Type 0
CanEvaluate d action values = (widths : List ℕ) × HaveWidths widths values × IsTyped d action widths

-- with registers of these widths, the event is at a port of one of them, and its value has that register's width
pub record EventFits (widths : List ℕ) (e : Event) : Type 0 where
  pub port : IsPort e.access.port
  pub value : (width : ℕ) × (slice_get widths e.access.register ≡ Some width) × HasWidth e.value width

-- each event fits
abbrev pub EventsFit : List ℕ → List Event → Type 0
EventsFit widths events = AllByRecursion (EventFits widths) events

-- each event is of one of that many registers
abbrev pub AreOf : ℕ → List Event → Type 0
AreOf registers events = All (λ (e : Event). e.access.register < registers) events

-- the value has this width, and no bits where the width is 0
pub record ValueFits (width : ℕ) (value : BitVector) : Type 0 where
  pub as_wide : value.width ≡ width
  pub bits : 1 ≤ width → IsBits value

-- the value that a part evaluates to, if it has one, has this width
abbrev pub EndingFits : {S : Type 0} → ℕ → Ending BitVector S → Type 0
EndingFits width (Value value) = ValueFits width value
EndingFits width (Stop cause) = Unit {0}

-- a part notes events that fit, and the value that it evaluates to has this width
abbrev pub ProgressFits : {S : Type 0} → List ℕ → ℕ → Progress BitVector S → Type 0
ProgressFits widths width progress = EventsFit widths progress.events × EndingFits width progress.ending

-- with registers of these widths, a read at these ports has a value of its register's width, and the events that
-- reads and writes note fit
pub record PortsFit {S : Type 0} (widths : List ℕ) (ports : Ports S) : Type 0 where
  pub read : (port register width : ℕ) (events : List Event) → IsPort port → slice_get widths register ≡ Some width
      → EventsFit widths events → ProgressFits widths width (ports.read port register events)
  pub write : (port register width : ℕ) (value : BitVector) (events : List Event) → IsPort port → slice_get widths register ≡ Some width
      → HasWidth value width → EventsFit widths events → ProgressFits widths 0 (ports.write port register value events)

-- the later events begin with the earlier ones
abbrev pub Continues : List Event → List Event → Type 0
Continues earlier later = (more : List Event) × (later ≡ earlier ++ more)

-- the part only adds events after those before it
abbrev pub Appends : {V S : Type 0} → Evaluation V S → Type 0
Appends part = (events : List Event) → Continues events (part events).events

-- reads and writes at these ports only add events
pub record PortsAppend {S : Type 0} (ports : Ports S) : Type 0 where
  pub read : (port register : ℕ) → Appends (ports.read port register)
  pub write : (port register : ℕ) (value : BitVector) → Appends (ports.write port register value)
