-- What is promised of a call of any program: one definition for each clause, over what its contract knows of the call. A clause
-- that says "with status 0" speaks of each status that says that the answer was written (`ends`).
use Rattle.std.specs.Prelude.{◌≡◌, ◌≢◌, ◌⊎◌, ℕ, false, true, List, [], Option, None, Some, IfSome}
use Rattle.kw_base.specs.FaultLine.{line_of_fault}
use Rattle.kw_base.specs.declared.fault.Fault.{Fault}
use Rattle.kw_bits.specs.Faults.{Rose}
use Rattle.kw_bits.specs.declared.host.HostSpec.{HostSpec}
use Rattle.front_end.specs.Program.{Agrees, IsAnswer, IsFailure, Program, known_source, reads_source, text_in}
use Rattle.front_end.specs.Streams.{Gains, GainsFront, GainsNothing, Stream}
use Rattle.front_end.specs.declared.status.Status.TheVariants.{Done, Usage, Refused, ReadFault, WriteFault, NoMemory}

-- the words, the host functions that are offered, the source, the sink, and the status
pub record Call (S : Type 0) : Type 0 where
  pub words : List (List ℕ)
  pub hosts : List HostSpec
  pub source : Stream
  pub sink : Stream
  pub status : S

-- the call with these words, host functions and streams, and with this status
abbrev pub call : {S : Type 0} → List (List ℕ) → List HostSpec → Stream → Stream → S → Call S
call words hosts source sink status = record { words = words; hosts = hosts; source = source; sink = sink; status = status }

module _ {C A S : Type 0} (p : Program C A S) where
  -- what the words ask for
  abbrev pub command_in : Call S → Option C
  command_in c = p.command_of c.words

  -- the bytes that the answer rests on, where they are known
  abbrev pub known_in : Call S → Option (List ℕ)
  known_in c = known_source p (command_in c) c.source.before

  -- an answer to the call where the source has these bytes
  abbrev pub IsAnswerTo : Call S → List ℕ → A → Type 0
  IsAnswerTo c bytes answer = IsAnswer p c.hosts c.words bytes answer

  -- With status 0 the text that is asked for was written, and nothing else.
  abbrev pub WritesText : Call S → Type 0
  WritesText c = p.ends c.status ≡ Done → IfSome (known_in c) (λ bytes. (text : List ℕ) × IsAnswerTo c bytes (p.written c.status text) × Gains c.sink text)

  -- With status 0 the source was read to its end, where the answer rests on it.
  abbrev pub ReadsAll : Call S → Type 0
  ReadsAll c = p.ends c.status ≡ Done → (reads_source p (command_in c) ≡ false) ⊎ IfSome c.source.before (λ _. c.source.after ≡ Some [])

  -- With status 1 the words are invalid, and the usage line was written.
  abbrev pub WritesUsage : Call S → Type 0
  WritesUsage c = p.ends c.status ≡ Usage → (command_in c ≡ None) × Gains c.sink p.usage_line

  -- Invalid words have status 1, unless a write fails or memory runs out, and then the first bytes of the usage line were written.
  abbrev pub RejectsWords : Call S → Type 0
  RejectsWords c = command_in c ≡ None → (p.ends c.status ≡ Usage) ⊎ ((p.ends c.status ≡ WriteFault) ⊎ (p.ends c.status ≡ NoMemory))

  -- Where the words are invalid, the first bytes of the usage line were written.
  abbrev pub WritesUsageFront : Call S → Type 0
  WritesUsageFront c = command_in c ≡ None → GainsFront c.sink p.usage_line

  -- The source isn't touched where the words are invalid or the answer doesn't rest on it.
  abbrev pub LeavesUnread : Type 0 → Call S → Type 0
  LeavesUnread untouched c = reads_source p (command_in c) ≡ false → untouched × (p.ends c.status ≢ ReadFault)

  -- With status 2 the source is refused, and the line of its fault was written, whether its bytes are known or not.
  abbrev pub WritesRefusal : Call S → Type 0
  WritesRefusal c = p.ends c.status ≡ Refused → IfSome (known_in c) (λ bytes. (fault : Fault) × IsAnswerTo c bytes (p.refused fault) × Gains c.sink (line_of_fault fault))

  -- With status 2 the line of some fault was written, also where the bytes of the source aren't known.
  abbrev pub WritesFaultLine : Call S → Type 0
  WritesFaultLine c = p.ends c.status ≡ Refused → (fault : Fault) × Gains c.sink (line_of_fault fault)

  -- The status is that of each answer, unless reading or writing fails or memory runs out.
  abbrev pub HasStatusOfAnswer : Call S → Type 0
  HasStatusOfAnswer c = IfSome (known_in c) (λ bytes. (answer : A) → IsAnswerTo c bytes answer → (c.status ≡ p.answered answer) ⊎ IsFailure (p.ends c.status))

  -- In all cases the first bytes of the answer's text were written, where there is one text.
  abbrev pub WritesFront : Call S → Type 0
  WritesFront c = p.has_one_text (command_in c) ≡ true → IfSome (known_in c) (λ bytes. (answer : A) → IsAnswerTo c bytes answer → GainsFront c.sink (text_in p answer))

  -- In all cases the first bytes of some answer's text were written, or nothing was, since reading failed or memory ran out.
  abbrev pub WritesSomeFront : Call S → Type 0
  WritesSomeFront c =
      IfSome (known_in c) (λ bytes. ((answer : A) × IsAnswerTo c bytes answer × GainsFront c.sink (text_in p answer))
      ⊎ (GainsNothing c.sink × ((p.ends c.status ≡ ReadFault) ⊎ (p.ends c.status ≡ NoMemory))))

  -- With status 3 the source's count of faults rose, and nothing was written; with status 4 the sink's count rose.
  abbrev pub CountsReadFault : Call S → Type 0
  CountsReadFault c = p.ends c.status ≡ ReadFault → Rose c.source.faults_before c.source.faults_after

  -- With status 3 nothing was written.
  abbrev pub WritesNothing : Call S → Type 0
  WritesNothing c = p.ends c.status ≡ ReadFault → GainsNothing c.sink

  -- With status 4 the sink's count of faults rose.
  abbrev pub CountsWriteFault : Call S → Type 0
  CountsWriteFault c = p.ends c.status ≡ WriteFault → Rose c.sink.faults_before c.sink.faults_after

-- all of it
pub record IsKept {C A S : Type 0} (p : Program C A S) (untouched : Type 0) (c : Call S) : Type 0 where
  -- status 0
  pub done : WritesText p c
  pub whole : ReadsAll p c
  -- status 1
  pub usage : WritesUsage p c
  pub usage_only : RejectsWords p c
  pub usage_front : WritesUsageFront p c
  pub unread : LeavesUnread p untouched c
  -- status 2
  pub refused : WritesRefusal p c
  pub refused_line : WritesFaultLine p c
  -- every status
  pub exact : HasStatusOfAnswer p c
  pub front : WritesFront p c
  pub some : WritesSomeFront p c
  -- status 3 and status 4
  pub read_fault : CountsReadFault p c
  pub nothing_written : WritesNothing p c
  pub write_fault : CountsWriteFault p c
  -- what these say of the program's own answers and statuses is so of what is written
  pub agrees : Agrees p
