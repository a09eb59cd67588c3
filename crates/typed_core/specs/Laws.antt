-- What holds of accesses and of evaluation: which pairs of accesses at ports clash, as a table, after the checks of
-- Kôika's logs (Bourgeat et al., PLDI 2020), and that actions keep what the ports keep.
use Rattle.std.specs.Prelude.{◌≡◌, ◌≢◌, ◌↔◌, ℕ, ◌<◌, ◌≤◌, List, true, false}
use Rattle.kw_bits.specs.BitVector.{BitVector}
use Rattle.typed_core.specs.Alone.{alone_ports}
use Rattle.typed_core.specs.Clash.{clashes}
use Rattle.typed_core.specs.Evaluation.{Environment, Ports, evaluate}
use Rattle.typed_core.specs.Fits.{Appends, EnvironmentFits, EventsFit, PortsAppend, PortsFit, ProgressFits}
use Rattle.typed_core.specs.Valid.{ActionHasWidth, Declarations}
use Rattle.typed_core.specs.Widths.{HaveWidths}
use Rattle.typed_core.specs.declared.access.Access.{Access}
use Rattle.typed_core.specs.declared.access.Event.{Event}
use Rattle.typed_core.specs.declared.action.Action.{Action}

-- a read and a write of a register at a port
abbrev pub read_at : ℕ → ℕ → Access
read_at port register = record { write = false; port = port; register = register }

abbrev pub write_at : ℕ → ℕ → Access
write_at port register = record { write = true; port = port; register = register }

-- a read cannot follow a write at its port or above
abbrev pub ReadAfterWrite : Type 0
ReadAfterWrite = (i j register : ℕ) → (clashes (read_at i register) (write_at j register) ≡ true) ↔ (i ≤ j)

-- a write cannot follow a read above its port
abbrev pub WriteAfterRead : Type 0
WriteAfterRead = (i j register : ℕ) → (clashes (write_at i register) (read_at j register) ≡ true) ↔ (i < j)

-- a write cannot follow a write at its port or above
abbrev pub WriteAfterWrite : Type 0
WriteAfterWrite = (i j register : ℕ) → (clashes (write_at i register) (write_at j register) ≡ true) ↔ (i ≤ j)

-- two reads never clash
abbrev pub ReadAfterRead : Type 0
ReadAfterRead = (i j r q : ℕ) → clashes (read_at i r) (read_at j q) ≡ false

-- nor do accesses of two registers
abbrev pub OtherRegister : Type 0
OtherRegister = (later earlier : Access) → later.register ≢ earlier.register → clashes later earlier ≡ false

-- at ports that only add events, an action only adds events
abbrev pub ActionsAppend : Type 0 → Type 0
ActionsAppend S = (env : Environment) (ports : Ports S) (action : Action) (values : List BitVector) → PortsAppend ports → Appends (evaluate env ports action values)

-- at ports that answer values of the registers' widths and note events that fit, an action of a width has a value
-- of that width, and the events fit
abbrev pub ActionsFit : Type 0 → Type 0
ActionsFit S = (d : Declarations) (env : Environment) (ports : Ports S) (action : Action) (locals : List ℕ) (values : List BitVector) (width : ℕ) (events : List Event)
    → EnvironmentFits d env → PortsFit d.regs ports → ActionHasWidth d action locals width → HaveWidths locals values → EventsFit d.regs events
    → ProgressFits d.regs width (evaluate env ports action values events)

-- the ports of a rule that runs alone are such ports
abbrev pub AlonePorts : Type 0
AlonePorts = (widths : List ℕ) (regs : List BitVector) → HaveWidths widths regs → PortsAppend (alone_ports regs) × PortsFit widths (alone_ports regs)
