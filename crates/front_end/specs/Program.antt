-- What a program is: what its words ask for, which answers are right for the bytes of its source, and how it ends. A program of
-- this house gives its commands, answers and statuses, and what it promises is then said once for all (`Calls.antt`).
use Rattle.std.specs.Prelude.{◌≡◌, ℕ, ◌⊎◌, Bool, false, List, [], MatchOption, Option, None, Some, if◌then◌else◌}
use Rattle.kw_base.specs.FaultLine.{line_of_fault}
use Rattle.kw_base.specs.declared.fault.Fault.{Fault}
use Rattle.kw_bits.specs.declared.host.HostSpec.{HostSpec}
use Rattle.front_end.specs.declared.answer.Answer.{Answer}
use Rattle.front_end.specs.declared.answer.Answer.TheVariants.{Usage, Refused, Written}
use Rattle.front_end.specs.declared.status.Status.{Status}
use Rattle.front_end.specs.declared.status.Status.TheVariants as statuses

-- the status of a call that wrote what is answered
abbrev pub status_of : Answer → Status
status_of Usage = statuses.Usage
status_of (Refused fault) = statuses.Refused
status_of (Written text) = statuses.Done

-- the text of what is answered, where this line says how to use the program
abbrev pub text_of : List ℕ → Answer → List ℕ
text_of usage_line Usage = usage_line
text_of usage_line (Refused fault) = line_of_fault fault
text_of usage_line (Written text) = text

-- a program with these commands, answers and statuses
pub record Program (C A S : Type 0) : Type 1 where
  -- the command that words ask for; where there is none they are invalid
  pub command_of : List (List ℕ) → Option C
  -- whether an answer to the command depends on the source
  pub is_of_source : C → Bool
  -- the answers to a command, where these host functions are offered and the source has these bytes
  pub Answers : List HostSpec → C → List ℕ → A → Type 0
  -- whether the answers to words that ask for this have one text
  pub has_one_text : Option C → Bool
  -- how to use the program
  pub usage_line : List ℕ
  -- what is written of an answer: the usage line, the line of a fault, or a text
  pub plain : A → Answer
  -- the answer that is this fault
  pub refused : Fault → A
  -- the answer that is this text, of a call that ends with this status
  pub written : S → List ℕ → A
  -- the status of a call that wrote the answer
  pub answered : A → S
  -- what a status says: the answer was written, or why it wasn't
  pub ends : S → Status

module _ {C A S : Type 0} (p : Program C A S) where
  -- the answer to words and a source; where the words are invalid it is how to use the program
  abbrev pub IsAnswer : List HostSpec → List (List ℕ) → List ℕ → A → Type 0
  IsAnswer hosts words source answer = MatchOption (p.command_of words) (p.plain answer ≡ Usage) (λ command. p.Answers hosts command source answer)

  -- the text of an answer
  abbrev pub text_in : A → List ℕ
  text_in answer = text_of p.usage_line (p.plain answer)

  -- whether words that ask for this are answered by the source
  abbrev pub reads_source : Option C → Bool
  reads_source None = false
  reads_source (Some command) = p.is_of_source command

  -- what is known of the bytes that an answer depends on, where these are known of the source
  abbrev pub known_source : Option C → Option (List ℕ) → Option (List ℕ)
  known_source command left = if reads_source command then left else Some []

-- What a program says of its answers and statuses agrees with what is written: an answer's status ends the call as what is
-- written of the answer does. An answer of which a text is written is the answer that is this text, and of that one this text
-- is written; so it is for a fault.
pub record Agrees {C A S : Type 0} (p : Program C A S) : Type 0 where
  pub ends : (a : A) → p.ends (p.answered a) ≡ status_of (p.plain a)
  pub written : (a : A) (text : List ℕ) → p.plain a ≡ Written text → a ≡ p.written (p.answered a) text
  pub is_written : (s : S) (text : List ℕ) → p.plain (p.written s text) ≡ Written text
  pub refused : (a : A) (fault : Fault) → p.plain a ≡ Refused fault → a ≡ p.refused fault
  pub is_refused : (fault : Fault) → p.plain (p.refused fault) ≡ Refused fault

-- reading or writing failed, or memory ran out
abbrev pub IsFailure : Status → Type 0
IsFailure result = (result ≡ statuses.ReadFault) ⊎ ((result ≡ statuses.WriteFault) ⊎ (result ≡ statuses.NoMemory))
