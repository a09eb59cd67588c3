-- Which lists of events a log stands for. A log is what the logs of Kôika's semantics (Bourgeat et al., PLDI 2020) are
-- in a simulator: for each register, which of its ports were read and written, and with what values. It doesn't keep
-- in which order registers were read and written, nor how often, nor the values that were read.
use Rattle.std.specs.Prelude.{◌≡◌, ℕ, ◌+◌, ◌*◌, ◌<◌, Bool, true, false, ◌==◌, ◌&&◌, not, List, [], ◌∷◌, length, slice_index_or}
use Rattle.std.specs.List.{AllByRecursion, list_any}
use Rattle.kw_bits.specs.BitVector.{BitVector}
use Rattle.typed_core.specs.Alone.{is_refused}
use Rattle.typed_core.specs.Evaluation.{unit}
use Rattle.typed_core.specs.Fits.{EventsFit}
use Rattle.typed_core.specs.Valid.{IsPort}
use Rattle.typed_core.specs.declared.access.Event.{Event}
use Rattle.typed_core.specs.declared.limits.TheConstants.{PORTS}
use Rattle.rule_log.specs.Flags.{has}
use Rattle.rule_log.specs.declared.flags.PortFlags.{PortFlags}

-- what a log holds: the flags of each register, and PORTS values of each, of which those with a set flag count
pub record RegisterLog : Type 0 where
  pub flags : List PortFlags
  pub values : List BitVector

-- how many registers there are
abbrev pub registers : RegisterLog → ℕ
registers log = length log.flags

-- the log has an access of this kind, at this port, of this register; true says a write
abbrev pub is_set : RegisterLog → Bool → ℕ → ℕ → Bool
is_set log write port register = has (slice_index_or log.flags register (record { 0 = 0 })) write port

-- the value of the write at this port of this register
abbrev pub written : RegisterLog → ℕ → ℕ → BitVector
written log port register = slice_index_or log.values (PORTS * register + port) unit

-- the event is an access of this kind, at this port, of this register
abbrev pub is_access : Bool → ℕ → ℕ → Event → Bool
is_access true port register e = e.access.write && (e.access.register == register) && (e.access.port == port)
is_access false port register e = not e.access.write && (e.access.register == register) && (e.access.port == port)

-- a later write of the same register is at a port above
abbrev pub IsBelow : Event → Event → Type 0
IsBelow earlier later = earlier.access.write ≡ true → later.access.write ≡ true → earlier.access.register ≡ later.access.register → earlier.access.port < later.access.port

-- the writes of each register are at ascending ports
abbrev pub WritesAscend : List Event → Type 0
WritesAscend [] = Unit {0}
WritesAscend (e ∷ events) = AllByRecursion (IsBelow e) events × WritesAscend events

-- the value of a write is the one at its port and register
abbrev pub IsWrittenIn : (ℕ → ℕ → BitVector) → Event → Type 0
IsWrittenIn written e = e.access.write ≡ true → written e.access.port e.access.register ≡ e.value

-- with registers of these widths, flags and values tell of these events
pub record Tells (widths : List ℕ) (is_set : Bool → ℕ → ℕ → Bool) (written : ℕ → ℕ → BitVector) (events : List Event) : Type 0 where
  pub flags : (write : Bool) (port register : ℕ) → IsPort port → register < length widths
      → is_set write port register ≡ list_any (is_access write port register) events
  pub values : AllByRecursion (IsWrittenIn written) events
  pub ascending : WritesAscend events
  pub fit : EventsFit widths events

-- with registers of these widths, the log stands for these events
pub record StandsFor (widths : List ℕ) (log : RegisterLog) (events : List Event) : Type 0 where
  pub count : registers log ≡ length widths
  pub tells : Tells widths (is_set log) (written log) events

-- no write among the later events is refused by the earlier ones
abbrev pub WritesFollow : List Event → List Event → Type 0
WritesFollow earlier later = AllByRecursion (λ (e : Event). e.access.write ≡ true → is_refused earlier e.access ≡ false) later
