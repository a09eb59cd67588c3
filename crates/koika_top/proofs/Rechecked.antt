-- What is told of an answer to `sim --journal` and to `recheck`.
use Rattle.std.proofs.Common.{◌≡◌, ◌⊎◌, ℕ, List, subst, inl, inr}
use Rattle.kw_bits.specs.declared.host.HostSpec.{HostSpec}
use Rattle.typed_core.specs.declared.design.Parts.{Parts as Core}
use Rattle.one_rule.specs.Stimulus.{InputVectors}
use Rattle.journal_check.specs.Checking.{IsGood}
use Rattle.koika_check.specs.declared.checked.Checked.{Checked}
use Rattle.koika_lower.specs.Lowering.{IsLowered}
use Rattle.front_end.specs.Program.{IsFailure, status_of}
use Rattle.koika_top.specs.Calls.{IsDecided}
use Rattle.koika_top.specs.Journal.{AnswersJournal, HasJournal}
use Rattle.front_end.specs.Certified.{parts_of}
use Rattle.koika_top.specs.Recheck.{AnswersRecheck, MayHaveJournal}
use Rattle.front_end.specs.declared.answer.Answer.{Answer}
use Rattle.front_end.specs.declared.answer.Answer.TheVariants.{Usage, Refused, Written}
use Rattle.front_end.specs.declared.status.Status.{Status}
use Rattle.front_end.specs.declared.status.Status.TheVariants as status
use Rattle.koika_top.proofs.OneAnswer.{journaled_or_refused}
use Rattle.koika_top.proofs.OneRecheck.{before_or_may, good_or_not, here, one_read, pass-across, read-across}

-- an answer to `sim --journal`, where the source has a journal
pub journaled : (hosts : List HostSpec) (cycles workers : ℕ) (bytes : List ℕ) (answer : Answer) (result : Status) (design : Checked) (stimulus : InputVectors) → HasJournal hosts cycles bytes design stimulus
    → AnswersJournal hosts cycles workers bytes answer → (result ≡ status_of answer) ⊎ ((result ≡ status.WriteFault) ⊎ (result ≡ status.NoMemory)) → (result ≡ status.Done) ⊎ IsFailure result
journaled hosts cycles workers bytes Usage result design stimulus has is told = absurd is
journaled hosts cycles workers bytes (Refused fault) result design stimulus has is told = absurd (journaled_or_refused hosts bytes cycles workers fault design stimulus has is)
journaled hosts cycles workers bytes (Written text) result design stimulus has is (inl e) = inl e
journaled hosts cycles workers bytes (Written text) result design stimulus has is (inr f) = inr (inr f)

-- and one to `recheck`, where the source may have a journal
pub rechecked : (hosts : List HostSpec) (cycles : ℕ) (bytes : List ℕ) (d : Checked) (s : InputVectors) (core : Core) → MayHaveJournal hosts cycles bytes d s → IsLowered d core → (answer : Answer) (result : Status)
    → AnswersRecheck hosts cycles bytes answer → (result ≡ status_of answer) ⊎ ((result ≡ status.WriteFault) ⊎ (result ≡ status.NoMemory))
    → IsDecided core s cycles (parts_of bytes).certificate_line (parts_of bytes).certificate result
rechecked hosts cycles bytes d s core may lowered Usage result is told = absurd is
rechecked hosts cycles bytes d s core may lowered (Refused f) result is (inr failed) =
    record { good = λ j read good. inr (inr failed); other = λ j read bad. inr (inr failed); none = λ no. inr (inr failed) }
rechecked hosts cycles bytes d s core may lowered (Written t) result is (inr failed) =
    record { good = λ j read good. inr (inr failed); other = λ j read bad. inr (inr failed); none = λ no. inr (inr failed) }
rechecked hosts cycles bytes d s core may lowered (Refused f) result (inl before) (inl e) = absurd (before_or_may hosts cycles bytes f d s may before)
rechecked hosts cycles bytes d s core may lowered (Refused f) result (inr looked) (inl e) =
    record {
      good = λ j read good. absurd (good_or_not hosts cycles bytes d s core may lowered j f read good (here hosts cycles bytes d s core may lowered f looked));
      other = λ j read bad. inl e;
      none = λ no. inl e;
    }
rechecked hosts cycles bytes d s core may lowered (Written t) result is (inl e) =
    let also = is.spelled.spelled in
    let mine = read-across hosts cycles bytes d is.design s is.stimulus core is.core may also lowered is.spelled.lowered is.journal is.spelled.read in
    let fine = pass-across hosts cycles bytes d is.design s is.stimulus core is.core may also lowered is.spelled.lowered is.journal is.good in
    record {
      good = λ j read good. inl e;
      other = λ j read bad. absurd (bad (subst (IsGood core s cycles) (one_read hosts cycles bytes d s core may lowered is.journal j mine read) fine));
      none = λ no. absurd (no is.journal mine);
    }
