-- The lab is a program whose answers and statuses agree, and each call has one answer.
use Rattle.std.proofs.Common.{◌≡◌, ℕ, Bool, true, false, List, Option, refl, ap, subst}
use Rattle.kw_base.specs.declared.fault.Fault.{Fault}
use Rattle.kw_bits.specs.declared.host.HostSpec.{HostSpec}
use Rattle.kw_io.specs.Portions.{TakesAll}
use Rattle.aig_blast.specs.Aigs.{AigParts}
use Rattle.front_end.specs.Program.{Agrees, status_of, text_in}
use Rattle.front_end.specs.declared.answer.Answer.{Answer}
use Rattle.front_end.specs.declared.answer.Answer.TheVariants as plain_answers
use Rattle.front_end.specs.declared.status.Status.{Status}
use Rattle.front_end.specs.declared.status.Status.TheVariants as plain_statuses
use Rattle.front_end.specs.Streams.{Stream}
use Rattle.front_end.specs.inner.Steps.{IsReply, Tells, TellsRead}
use Rattle.front_end.proofs.Promises.{IsDefinite, tells-read}
use Rattle.front_end.proofs.Told.{Embeds}
use Rattle.lab_top.specs.Answer.{Answers, answered, ends, lab, plain, written}
use Rattle.lab_top.specs.Words.{command_of}
use Rattle.lab_top.specs.inner.Steps.{answer_if, status_if}
use Rattle.lab_top.specs.declared.answer.LabAnswer.{LabAnswer}
use Rattle.lab_top.specs.declared.answer.LabAnswer.TheVariants.{Usage, Refused, Written, Failed}
use Rattle.lab_top.specs.declared.status.LabStatus.{LabStatus}
use Rattle.lab_top.specs.declared.status.LabStatus.TheVariants as statuses
use Rattle.lab_top.specs.declared.words.Command.{Command}
use Rattle.lab_top.specs.declared.words.Command.TheVariants.{Why, Profile, Waves, Verilog, Lint, Obligation, Certify}
use Rattle.lab_top.proofs.OneAnswer.{asked-like, asked-same}

ends-agree : (a : LabAnswer) → ends (answered a) ≡ status_of (plain a)
ends-agree Usage = refl
ends-agree (Refused fault) = refl
ends-agree (Written text) = refl
ends-agree (Failed text) = refl

written-agree : (a : LabAnswer) (text : List ℕ) → plain a ≡ plain_answers.Written text → a ≡ written (answered a) text
written-agree Usage text e = let bad : plain_answers.Usage ≡ plain_answers.Written text = e in absurd cc
written-agree (Refused fault) text e = let bad : plain_answers.Refused fault ≡ plain_answers.Written text = e in absurd cc
written-agree (Written own) text e = let same : own ≡ text = cc in ap (λ x. Written x) same
written-agree (Failed own) text e = let same : own ≡ text = cc in ap (λ x. Failed x) same

refused-agree : (a : LabAnswer) (fault : Fault) → plain a ≡ plain_answers.Refused fault → a ≡ Refused fault
refused-agree Usage fault e = let bad : plain_answers.Usage ≡ plain_answers.Refused fault = e in absurd cc
refused-agree (Refused own) fault e = let same : own ≡ fault = cc in ap (λ x. Refused x) same
refused-agree (Written text) fault e = let bad : plain_answers.Written text ≡ plain_answers.Refused fault = e in absurd cc
refused-agree (Failed text) fault e = let bad : plain_answers.Written text ≡ plain_answers.Refused fault = e in absurd cc

is-written : (s : LabStatus) (text : List ℕ) → plain (written s text) ≡ plain_answers.Written text
is-written statuses.Done text = refl
is-written statuses.Usage text = refl
is-written statuses.Refused text = refl
is-written statuses.ReadFault text = refl
is-written statuses.WriteFault text = refl
is-written statuses.NoMemory text = refl
is-written statuses.Failed text = refl

pub agrees : (circuit : AigParts) → Agrees (lab circuit)
agrees circuit = record { ends = ends-agree; written = written-agree; is_written = is-written; refused = refused-agree; is_refused = λ fault. refl }

replies : (circuit : AigParts) (hosts : List HostSpec) (command : Command) (bytes : List ℕ) (a : LabAnswer)
    → Answers circuit hosts command bytes a → IsReply (plain a)
replies circuit hosts (Why cycle cycles name) bytes Usage h = h
replies circuit hosts (Profile cycles is_strict) bytes Usage h = h
replies circuit hosts (Waves cycles) bytes Usage h = h
replies circuit hosts (Verilog ports) bytes Usage h = h
replies circuit hosts Lint bytes Usage h = h
replies circuit hosts (Obligation name) bytes Usage h = h
replies circuit hosts (Certify name) bytes Usage h = h
replies circuit hosts command bytes (Refused fault) h = tt
replies circuit hosts command bytes (Written text) h = tt
replies circuit hosts command bytes (Failed text) h = tt

pub definite : (circuit : AigParts) → IsDefinite (lab circuit)
definite circuit = record {
  status = λ hosts words bytes a b h k. (asked-like circuit hosts (command_of words) bytes a b h k).status;
  text = λ hosts words bytes a b one h k.
      ap (text_in (lab circuit)) (asked-same circuit hosts (command_of words) bytes a b one h k);
  reply = replies circuit;
}

-- what was told of all bytes of a source is told of the source
pub read-told : (hosts : List HostSpec) (command : Command) (left new : Option (List ℕ)) (bytes seen : List ℕ)
    (sink : Stream) (result : LabStatus) → TakesAll left new bytes → seen ≡ bytes
    → ((circuit : AigParts) × Tells (lab circuit) (Answers circuit hosts command seen) sink result)
    → (circuit : AigParts)
    × TellsRead (lab circuit) (λ answer. IsReply (plain answer)) left (Answers circuit hosts command) sink result
read-told hosts command left new bytes seen sink result took is (circuit, told) = (
  circuit,
  tells-read (lab circuit) (definite circuit) hosts command left new bytes sink result took
      (subst (λ (all : List ℕ). Tells (lab circuit) (Answers circuit hosts command all) sink result) is told),
)

-- ---- what is shared by programs, in the lab

pub ends-if : (fails : Bool) (s : Status) → ends (status_if fails s) ≡ s
ends-if false plain_statuses.Done = refl
ends-if true plain_statuses.Done = refl
ends-if fails plain_statuses.Usage = refl
ends-if fails plain_statuses.Refused = refl
ends-if fails plain_statuses.ReadFault = refl
ends-if fails plain_statuses.WriteFault = refl
ends-if fails plain_statuses.NoMemory = refl

pub plain-if : (fails : Bool) (a : Answer) → plain (answer_if fails a) ≡ a
plain-if fails plain_answers.Usage = refl
plain-if fails (plain_answers.Refused fault) = refl
plain-if false (plain_answers.Written text) = refl
plain-if true (plain_answers.Written text) = refl

pub answered-if : (fails : Bool) (a : Answer) → answered (answer_if fails a) ≡ status_if fails (status_of a)
answered-if fails plain_answers.Usage = refl
answered-if fails (plain_answers.Refused fault) = refl
answered-if false (plain_answers.Written text) = refl
answered-if true (plain_answers.Written text) = refl

-- a text is a failure's, or isn't
abbrev pub embeds : (circuit : AigParts) → Bool → Embeds (lab circuit)
embeds circuit fails = record { of = status_if fails; answer = answer_if fails; ends = ends-if fails; plain = plain-if fails; answered = answered-if fails }
