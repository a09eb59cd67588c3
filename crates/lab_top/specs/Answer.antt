-- What the lab answers to the words of its command line and to the bytes of its source, as a program. A command's own
-- answers are in the file of its name.
use Rattle.std.specs.Prelude.{◌≡◌, ℕ, Bool, false, true, List, [], ◌∷◌, ◌++◌, codes, Option, Some}
use Rattle.kw_base.specs.declared.fault.Fault.{Fault}
use Rattle.kw_bits.specs.declared.host.HostSpec.{HostSpec}
use Rattle.aig_blast.specs.Aigs.{AigParts}
use Rattle.front_end.specs.Program.{Program}
use Rattle.front_end.specs.declared.answer.Answer.{Answer}
use Rattle.front_end.specs.declared.answer.Answer.TheVariants as plain_answers
use Rattle.front_end.specs.declared.status.Status.{Status}
use Rattle.front_end.specs.declared.status.Status.TheVariants as plain_statuses
use Rattle.lab_top.specs.Certify.{AnswersCertify, AnswersObligation}
use Rattle.lab_top.specs.Lint.{AnswersLint}
use Rattle.lab_top.specs.Profile.{AnswersProfile}
use Rattle.lab_top.specs.Verilog.{AnswersVerilog}
use Rattle.lab_top.specs.Waves.{AnswersWaves}
use Rattle.lab_top.specs.Why.{AnswersWhy}
use Rattle.lab_top.specs.Words.{command_of}
use Rattle.lab_top.specs.declared.answer.LabAnswer.{LabAnswer}
use Rattle.lab_top.specs.declared.answer.LabAnswer.TheVariants.{Usage, Refused, Written, Failed}
use Rattle.lab_top.specs.declared.status.LabStatus.{LabStatus}
use Rattle.lab_top.specs.declared.status.LabStatus.TheVariants as statuses
use Rattle.lab_top.specs.declared.words.Command.{Command}
use Rattle.lab_top.specs.declared.words.Command.TheVariants.{Why, Profile, Waves, Verilog, Lint, Obligation, Certify}

-- the answer to a command, where these host functions are handed in; of a claim by this circuit
abbrev pub Answers : AigParts → List HostSpec → Command → List ℕ → LabAnswer → Type 0
Answers circuit hosts (Why cycle cycles name) source answer = AnswersWhy hosts cycle cycles name source answer
Answers circuit hosts (Profile cycles is_strict) source answer = AnswersProfile hosts cycles is_strict source answer
Answers circuit hosts (Waves cycles) source answer = AnswersWaves hosts cycles source answer
Answers circuit hosts (Verilog options) source answer = AnswersVerilog hosts options source answer
Answers circuit hosts Lint source answer = AnswersLint hosts source answer
Answers circuit hosts (Obligation name) source answer = AnswersObligation circuit hosts name source answer
Answers circuit hosts (Certify name) source answer = AnswersCertify circuit hosts name source answer

-- what is written where words are invalid
abbrev pub usage_line : List ℕ
usage_line = codes "usage: koika_lab why|profile|lint|waves|step|verilog|obligation|certify" ++ 10 ∷ []

-- what is written of an answer: of a failure its text
abbrev pub plain : LabAnswer → Answer
plain Usage = plain_answers.Usage
plain (Refused fault) = plain_answers.Refused fault
plain (Written text) = plain_answers.Written text
plain (Failed text) = plain_answers.Written text

-- the status of a call that wrote the answer
abbrev pub answered : LabAnswer → LabStatus
answered Usage = statuses.Usage
answered (Refused fault) = statuses.Refused
answered (Written text) = statuses.Done
answered (Failed text) = statuses.Failed

-- the answer that is this text, of a call that ends with this status
abbrev pub written : LabStatus → List ℕ → LabAnswer
written statuses.Failed text = Failed text
written other text = Written text

-- what a status says of reading and writing: a failure's text was written too
abbrev pub ends : LabStatus → Status
ends statuses.Done = plain_statuses.Done
ends statuses.Usage = plain_statuses.Usage
ends statuses.Refused = plain_statuses.Refused
ends statuses.ReadFault = plain_statuses.ReadFault
ends statuses.WriteFault = plain_statuses.WriteFault
ends statuses.NoMemory = plain_statuses.NoMemory
ends statuses.Failed = plain_statuses.Done

-- each command is answered by its source
abbrev pub is_of_source : Command → Bool
is_of_source command = true

-- whether there is one text at most that is written: a design has several modules, and which of the rules that never fire
-- are noted is open
abbrev pub has_one_text : Option Command → Bool
has_one_text (Some (Verilog options)) = false
has_one_text (Some Lint) = false
has_one_text other = true

-- whether definitions alone make an answer: a design's module and circuit and the order of its rules are made by the
-- program's functions
abbrev pub is_answered : Option Command → Bool
is_answered (Some (Verilog options)) = false
is_answered (Some Lint) = false
is_answered (Some (Obligation name)) = false
is_answered (Some (Certify name)) = false
is_answered other = true

-- two answers that have one status, and are one if they are refusals
pub record IsLikeAnswer (a b : LabAnswer) : Type 0 where
  pub status : answered a ≡ answered b
  pub refusal : answered a ≡ statuses.Refused → a ≡ b

-- the lab, where this is the bit-level circuit of which a claim's clauses are made
abbrev pub lab : AigParts → Program Command LabAnswer LabStatus
lab circuit =
    record {
      command_of = command_of;
      is_of_source = is_of_source;
      Answers = Answers circuit;
      has_one_text = has_one_text;
      usage_line = usage_line;
      plain = plain;
      refused = λ (fault : Fault). Refused fault;
      written = written;
      answered = answered;
      ends = ends;
    }
