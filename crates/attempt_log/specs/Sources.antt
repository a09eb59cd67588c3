-- Where each read of a rule's events gets its value: from the rule's last write of the register at a lower port, or from
-- the register's value at the rule's start. It is kept beside an attempt's events, so that a verdict needn't look back.
use Rattle.std.specs.Prelude.{◌≡◌, ℕ, zero, suc, ◌≤◌, List, length, Option, Some, None, slice_get, slice_index_or, take}
use Rattle.kw_bits.specs.BitVector.{BitVector}
use Rattle.typed_core.specs.Alone.{seen}
use Rattle.typed_core.specs.declared.access.Event.{Event}
use Rattle.attempt_log.specs.Attempt.{Attempted, IsAttempt}

abbrev pub value_or : BitVector → Option Event → BitVector
value_or start None = start
value_or start (Some e) = e.value

-- the value that a source names: 0 is the start value, and 1 and on are those of the events, in order
abbrev pub value_from : List Event → BitVector → ℕ → BitVector
value_from events start zero = start
value_from events start (suc number) = value_or start (slice_get events number)

-- after so many events, a read of the register at the port gets its value from this source
pub record IsSource (events : List Event) (after port register source : ℕ) : Type 0 where
  pub within : source ≤ after
  pub gives : (start : BitVector) → seen port register (take after events) start ≡ value_from events start source

-- each event has the source of a read at its own register and port, before it; what is 0 at the list's end may be left out
pub record AreSources (events : List Event) (sources : List ℕ) : Type 0 where
  pub count : length sources ≤ length events
  pub each : (number : ℕ) (e : Event) → slice_get events number ≡ Some e → IsSource events number e.access.port e.access.register (slice_index_or sources number 0)

-- what an attempt keeps
pub record KeepsAttempt (a : Attempted) (held : List ℕ) : Type 0 where
  pub attempt : IsAttempt a
  pub sources : AreSources a.run.events held
