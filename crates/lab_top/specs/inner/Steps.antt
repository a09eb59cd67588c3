-- How the lab ends and answers where what is shared by programs ended and answered so.
use Rattle.std.specs.Prelude.{◌≡◌, ℕ, ◌≤◌, ⊤, List, [], Bool, true, false}
use Rattle.aig_blast.specs.Aigs.{AigParts}
use Rattle.front_end.specs.Certified.{longest_certified}
use Rattle.front_end.specs.Sources.{longest_source}
use Rattle.front_end.specs.declared.answer.Answer.{Answer}
use Rattle.front_end.specs.declared.answer.Answer.TheVariants as plain_answers
use Rattle.front_end.specs.declared.status.Status.{Status}
use Rattle.front_end.specs.declared.status.Status.TheVariants as plain_statuses
use Rattle.lab_top.specs.declared.answer.LabAnswer.{LabAnswer}
use Rattle.lab_top.specs.declared.answer.LabAnswer.TheVariants.{Usage, Refused, Written, Failed}
use Rattle.lab_top.specs.declared.status.LabStatus.{LabStatus}
use Rattle.lab_top.specs.declared.status.LabStatus.TheVariants as statuses
use Rattle.lab_top.specs.declared.words.Command.{Command}
use Rattle.lab_top.specs.declared.words.Command.TheVariants.{Why, Profile, Obligation, Certify}

-- done, or a failure
abbrev pub done_if : Bool → LabStatus
done_if false = statuses.Done
done_if true = statuses.Failed

-- the status of a call that ended so; if it is done, whether it is a failure
abbrev pub status_if : Bool → Status → LabStatus
status_if fails plain_statuses.Done = done_if fails
status_if fails plain_statuses.Usage = statuses.Usage
status_if fails plain_statuses.Refused = statuses.Refused
status_if fails plain_statuses.ReadFault = statuses.ReadFault
status_if fails plain_statuses.WriteFault = statuses.WriteFault
status_if fails plain_statuses.NoMemory = statuses.NoMemory

-- a text, of a failure or not
abbrev pub text_if : Bool → List ℕ → LabAnswer
text_if false text = Written text
text_if true text = Failed text

-- the answer that is written so; if it is a text, whether it is a failure's
abbrev pub answer_if : Bool → Answer → LabAnswer
answer_if fails plain_answers.Usage = Usage
answer_if fails (plain_answers.Refused fault) = Refused fault
answer_if fails (plain_answers.Written text) = text_if fails text

-- `why` begins with a cycle from 1 on, and is for some cycles
abbrev pub HasSomeCycles : Command → Type 0
HasSomeCycles (Why cycle cycles name) = (1 ≤ cycle) × (1 ≤ cycles)
HasSomeCycles other = ⊤

-- how many bytes the source of a command may have
abbrev pub longest_of : Command → ℕ
longest_of (Obligation name) = longest_certified
longest_of (Certify name) = longest_certified
longest_of other = longest_source

-- a circuit of nothing, for commands whose answers rest on none
abbrev pub no_circuit : AigParts
no_circuit = record { inputs = []; latches = []; outputs = []; gates = [] }

-- a call fails only by a strict profile
abbrev pub FailsBy : Command → LabStatus → Type 0
FailsBy command result = result ≡ statuses.Failed → (cycles : ℕ) × (command ≡ Profile cycles true)
