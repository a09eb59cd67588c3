-- What a call leaves that writes a text.
use Rattle.std.specs.Prelude.{◌≡◌, ◌⊎◌, ℕ, ◌≤◌, List, Result, Ok, Err, OnOk, IsErrOf}
use Rattle.kw_base.specs.FaultLine.{line_of_fault}
use Rattle.kw_base.specs.declared.fault.Refusal.{Refusal}
use Rattle.kw_base.specs.declared.fault.Refusal.TheVariants as refusals
use Rattle.kw_bits.specs.Faults.{Rose}
use Rattle.front_end.specs.Streams.{Gains, GainsFront, GainsNothing, Stream}
use Rattle.front_end.specs.declared.status.Status.{Status}
use Rattle.front_end.specs.declared.status.Status.TheVariants as statuses
use Rattle.front_end.specs.declared.untold.Untold.{Untold}
use Rattle.front_end.specs.declared.untold.Untold.TheVariants as untold

-- All of the text was written, or its first bytes where the call failed. A write failed only where the sink's count of faults
-- rose, and the count never falls.
pub record Told (text : List ℕ) (sink : Stream) (result : Result (Unit {0}) Untold) : Type 0 where
  pub all : OnOk result (Gains sink text)
  pub front : GainsFront sink text
  pub cause : IsErrOf result untold.WriteFault → Rose sink.faults_before sink.faults_after
  pub never_falls : sink.faults_before ≤ sink.faults_after

-- the status of a call that wrote its text to the end, or didn't
abbrev pub status_by : Result (Unit {0}) Untold → Status → Status
status_by (Ok written) whole = whole
status_by (Err untold.WriteFault) whole = statuses.WriteFault
status_by (Err untold.NoMemory) whole = statuses.NoMemory

-- The call ended with this status and wrote this text; or a write failed or memory ran out, and it wrote the text's first bytes.
pub record TellsText (whole : Status) (text : List ℕ) (sink : Stream) (result : Status) : Type 0 where
  pub status : (result ≡ whole) ⊎ ((result ≡ statuses.WriteFault) ⊎ (result ≡ statuses.NoMemory))
  pub all : result ≡ whole → Gains sink text
  pub front : GainsFront sink text
  pub cause : result ≡ statuses.WriteFault → Rose sink.faults_before sink.faults_after

-- the line of a fault; where memory ran out before, nothing
abbrev pub TellsWhy : Refusal → Stream → Status → Type 0
TellsWhy (refusals.Fault fault) sink result = TellsText statuses.Refused (line_of_fault fault) sink result
TellsWhy refusals.NoMemory sink result = GainsNothing sink × (result ≡ statuses.NoMemory)

-- a text that was made, or why there is none
abbrev pub TellsMade : Result (List ℕ) Refusal → Stream → Status → Type 0
TellsMade (Ok text) sink result = TellsText statuses.Done text sink result
TellsMade (Err refusal) sink result = TellsWhy refusal sink result
