-- What the contracts of a program's private functions cite: the status of a call and what it wrote, by the answers that there are.
use Rattle.std.specs.Prelude.{◌≡◌, ◌⊎◌, ⊤, List, ℕ, Option, None, Some, Result, Ok, Err, IfSome}
use Rattle.kw_base.specs.declared.fault.Refusal.{Refusal}
use Rattle.kw_base.specs.declared.fault.Refusal.TheVariants as refusals
use Rattle.kw_bits.specs.Faults.{Rose}
use Rattle.front_end.specs.Calls.{Call, IsAnswerTo, command_in, known_in}
use Rattle.front_end.specs.Program.{Program, text_in}
use Rattle.front_end.specs.Streams.{Gains, GainsFront, GainsNothing, Stream}
use Rattle.front_end.specs.declared.answer.Answer.{Answer}
use Rattle.front_end.specs.declared.answer.Answer.TheVariants.{Usage, Refused, Written}
use Rattle.front_end.specs.declared.status.Status.TheVariants as statuses

-- a text, or why there is none, is such an answer; out of memory is free
abbrev pub Makes : (Answer → Type 0) → Result (List ℕ) Refusal → Type 0
Makes Is (Ok text) = Is (Written text)
Makes Is (Err (refusals.Fault fault)) = Is (Refused fault)
Makes Is (Err refusals.NoMemory) = ⊤

-- a text or a refusal
abbrev pub IsReply : Answer → Type 0
IsReply Usage = ⊥
IsReply other = ⊤

module _ {C A S : Type 0} (p : Program C A S) where
  -- an answer to a command is a reply, and how to use the program is the answer where there is none
  abbrev pub Replies : Option C → A → Type 0
  Replies None answer = p.plain answer ≡ Usage
  Replies (Some command) answer = IsReply (p.plain answer)

  -- the status and what was written are those of this answer, or its first bytes and those of a failure
  pub record TellsOne (answer : A) (sink : Stream) (result : S) : Type 0 where
    pub status : (result ≡ p.answered answer) ⊎ ((p.ends result ≡ statuses.WriteFault) ⊎ (p.ends result ≡ statuses.NoMemory))
    pub all : result ≡ p.answered answer → Gains sink (text_in p answer)
    pub front : GainsFront sink (text_in p answer)
    pub cause : p.ends result ≡ statuses.WriteFault → Rose sink.faults_before sink.faults_after

  -- they are those of such an answer, or nothing was written, since memory ran out
  abbrev pub Tells : (A → Type 0) → Stream → S → Type 0
  Tells Is sink result = ((answer : A) × Is answer × TellsOne answer sink result) ⊎ (GainsNothing sink × (p.ends result ≡ statuses.NoMemory))

  -- The status and what was written are those of an answer of this kind that is right for the bytes, where they are known; or nothing
  -- was written, since reading failed or memory ran out.
  abbrev pub TellsRead : (A → Type 0) → Option (List ℕ) → (List ℕ → A → Type 0) → Stream → S → Type 0
  TellsRead Kind known Is sink result =
      ((answer : A) × Kind answer × IfSome known (λ bytes. Is bytes answer) × TellsOne answer sink result)
      ⊎ (GainsNothing sink × ((p.ends result ≡ statuses.ReadFault) ⊎ (p.ends result ≡ statuses.NoMemory)))

  abbrev pub TellsCall : Call S → Type 0
  TellsCall c = TellsRead (Replies (command_in p c)) (known_in p c) (IsAnswerTo p c) c.sink c.status
