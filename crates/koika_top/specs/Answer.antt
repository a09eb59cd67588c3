-- What the program answers to the words of its command line and to the bytes of its source, and the text of an
-- answer. A command's own answers are in the file of its name; later commands are further cases of these definitions.
use Rattle.std.specs.Prelude.{◌≡◌, ℕ, Bool, false, true, List, [], ◌∷◌, ◌++◌, codes, Option, Some}
use Rattle.kw_bits.specs.declared.host.HostSpec.{HostSpec}
use Rattle.koika_top.specs.Aiger.{AnswersAiger}
use Rattle.koika_top.specs.Aigsim.{AnswersAigsim}
use Rattle.koika_top.specs.Btorsim.{AnswersBtorsim}
use Rattle.koika_top.specs.Compile.{AnswersCompile}
use Rattle.koika_top.specs.Generator.{pipeline}
use Rattle.koika_top.specs.Journal.{AnswersJournal}
use Rattle.koika_top.specs.Reads.{AnswersCheck, AnswersPrint}
use Rattle.koika_top.specs.Recheck.{AnswersRecheck}
use Rattle.koika_top.specs.Sim.{AnswersSim}
use Rattle.front_end.specs.Program as program
use Rattle.front_end.specs.Program.{Program, status_of}
use Rattle.koika_top.specs.Words.{command_of}
use Rattle.front_end.specs.declared.answer.Answer.{Answer}
use Rattle.front_end.specs.declared.answer.Answer.TheVariants.{Refused, Written}
use Rattle.front_end.specs.declared.status.Status.{Status}
use Rattle.front_end.specs.declared.status.Status.TheVariants as status
use Rattle.koika_top.specs.declared.words.Command.{Command}
use Rattle.koika_top.specs.declared.words.Command.TheVariants.{Check, Print, Sim, Compile, Btorsim, Gen, Aiger, Aigsim, Journal, Recheck}

-- the answer to a command, where these host functions are handed in
abbrev pub Answers : List HostSpec → Command → List ℕ → Answer → Type 0
Answers hosts Check source answer = AnswersCheck hosts source answer
Answers hosts Print source answer = AnswersPrint source answer
Answers hosts (Sim cycles shown engine) source answer = AnswersSim hosts cycles shown source answer
Answers hosts (Btorsim cycles shown) source answer = AnswersBtorsim cycles shown source answer
Answers hosts Compile source answer = AnswersCompile hosts source answer
Answers hosts (Gen stages) source answer = answer ≡ Written (pipeline stages)
Answers hosts Aiger source answer = AnswersAiger hosts source answer
Answers hosts (Aigsim cycles shown) source answer = AnswersAigsim cycles shown source answer
Answers hosts (Journal cycles workers) source answer = AnswersJournal hosts cycles workers source answer
Answers hosts (Recheck cycles) source answer = AnswersRecheck hosts cycles source answer

-- whether an answer depends on the source
abbrev pub is_of_source : Command → Bool
is_of_source (Gen stages) = false
is_of_source other = true

-- how to use the program
abbrev pub usage_line : List ℕ
usage_line = codes "usage: koika check|print|sim|compile|btorsim|gen|aiger|aigsim|recheck" ++ 10 ∷ []

-- whether there is one text at most that is written: a design has several circuits, of words and of bits, and journals
abbrev pub has_one_text : Option Command → Bool
has_one_text (Some Compile) = false
has_one_text (Some Aiger) = false
has_one_text (Some (Journal cycles workers)) = false
has_one_text other = true

-- the program
abbrev pub koika : Program Command Answer Status
koika =
    record {
      command_of = command_of;
      is_of_source = is_of_source;
      Answers = Answers;
      has_one_text = has_one_text;
      usage_line = usage_line;
      plain = λ answer. answer;
      refused = λ fault. Refused fault;
      written = λ s text. Written text;
      answered = status_of;
      ends = λ s. s;
    }

-- the answer to words and a source; where the words aren't understood it is how to use the program
abbrev pub IsAnswer : List HostSpec → List (List ℕ) → List ℕ → Answer → Type 0
IsAnswer = program.IsAnswer koika

-- the text of an answer
abbrev pub text_of : Answer → List ℕ
text_of = program.text_of usage_line

-- whether definitions alone make an answer: circuits, journals and lowered designs are made by the program's functions
abbrev pub is_answered : Option Command → Bool
is_answered (Some Compile) = false
is_answered (Some Aiger) = false
is_answered (Some (Journal cycles workers)) = false
is_answered (Some (Recheck cycles)) = false
is_answered other = true

-- two answers that a user can't tell apart: they have one status and one text
pub record IsSameAnswer (a b : Answer) : Type 0 where
  pub status : status_of a ≡ status_of b
  pub text : text_of a ≡ text_of b

-- two answers that have one status, and one text if they are refusals
pub record IsLikeAnswer (a b : Answer) : Type 0 where
  pub refusal : status_of a ≡ status.Refused → text_of a ≡ text_of b
  pub status : status_of a ≡ status_of b
