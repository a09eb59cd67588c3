-- What is promised of a session: a call that reads a design and then a line for each cycle, and writes each row before
-- it reads on. Nothing is said of what is left of the source after a fault.
use Rattle.std.specs.Prelude.{◌≡◌, ◌≢◌, ◌⊎◌, ℕ, List, [], Option, None, Some, IfSome}
use Rattle.kw_base.specs.declared.fault.Fault.{Fault}
use Rattle.kw_bits.specs.Faults.{Rose}
use Rattle.kw_bits.specs.declared.host.HostSpec.{HostSpec}
use Rattle.front_end.specs.Program.{IsFailure}
use Rattle.front_end.specs.Streams.{Gains, GainsFront, GainsNothing, Stream}
use Rattle.front_end.specs.declared.status.Status.{Status}
use Rattle.front_end.specs.declared.status.Status.TheVariants.{Done, Usage, Refused, ReadFault, WriteFault, NoMemory}
use Rattle.stream_run.specs.Replies.{Answers, Reply, status_of}

-- the host functions that are offered, the source, the sink, and the status
pub record Session : Type 0 where
  pub hosts : List HostSpec
  pub source : Stream
  pub sink : Stream
  pub status : Status

-- the session with these host functions and streams, and with this status
abbrev pub session : List HostSpec → Stream → Stream → Status → Session
session hosts source sink status = record { hosts = hosts; source = source; sink = sink; status = status }

-- these may be the bytes that the source has to give: where its bytes are known, they are
abbrev pub MayGive : Option (List ℕ) → List ℕ → Type 0
MayGive left bytes = IfSome left (λ all. all ≡ bytes)

-- the reply to bytes that the source may give was written, with this fault or none
abbrev pub WritesReply : Session → Option Fault → Type 0
WritesReply s fault =
    (bytes : List ℕ) × MayGive s.source.before bytes
    × ((reply : Reply) × Answers s.hosts bytes reply × (reply.fault ≡ fault) × Gains s.sink reply.text)

-- With status 0 the report was written, and nothing else.
abbrev pub WritesReport : Session → Type 0
WritesReport s = s.status ≡ Done → WritesReply s None

-- With status 0 the source was read to its end.
abbrev pub ReadsAll : Session → Type 0
ReadsAll s = s.status ≡ Done → IfSome s.source.before (λ _. s.source.after ≡ Some [])

-- With status 2 the rows before a fault and the line of the fault were written.
abbrev pub WritesRefusal : Session → Type 0
WritesRefusal s = s.status ≡ Refused → (fault : Fault) × WritesReply s (Some fault)

-- The status is that of each reply, unless reading or writing fails or memory runs out.
abbrev pub HasStatusOfReply : Session → Type 0
HasStatusOfReply s =
    IfSome s.source.before
    (λ bytes. (reply : Reply) → Answers s.hosts bytes reply → (s.status ≡ status_of reply) ⊎ IsFailure s.status)

-- In all cases the first bytes of each reply were written.
abbrev pub WritesFront : Session → Type 0
WritesFront s =
    IfSome s.source.before (λ bytes. (reply : Reply) → Answers s.hosts bytes reply → GainsFront s.sink reply.text)

-- Where the bytes of the source aren't known too, the first bytes of a reply to some bytes were written; or nothing
-- was, since reading failed or memory ran out.
abbrev pub WritesSomeFront : Session → Type 0
WritesSomeFront s =
    ((bytes : List ℕ) × MayGive s.source.before bytes
    × ((reply : Reply) × Answers s.hosts bytes reply × GainsFront s.sink reply.text))
    ⊎ (GainsNothing s.sink × ((s.status ≡ ReadFault) ⊎ (s.status ≡ NoMemory)))

-- The status is never that of invalid words.
abbrev pub HasNoWords : Session → Type 0
HasNoWords s = s.status ≢ Usage

-- With status 3 the source's count of faults rose.
abbrev pub CountsReadFault : Session → Type 0
CountsReadFault s = s.status ≡ ReadFault → Rose s.source.faults_before s.source.faults_after

-- With status 4 the sink's count of faults rose.
abbrev pub CountsWriteFault : Session → Type 0
CountsWriteFault s = s.status ≡ WriteFault → Rose s.sink.faults_before s.sink.faults_after

-- all of it
pub record IsKept (s : Session) : Type 0 where
  pub done : WritesReport s
  pub whole : ReadsAll s
  pub refused : WritesRefusal s
  pub exact : HasStatusOfReply s
  pub front : WritesFront s
  pub some : WritesSomeFront s
  pub no_words : HasNoWords s
  pub read_fault : CountsReadFault s
  pub write_fault : CountsWriteFault s
