-- What `obligation` and `certify` answer to a source: the clauses to be refuted for what it claims of every run of its
-- design, and what is certified of it once they are. Both rest on the bit-level circuit that the clauses are made of.
use Rattle.std.specs.Prelude.{ℕ, List, Option}
use Rattle.kw_bits.specs.declared.host.HostSpec.{HostSpec}
use Rattle.aig_blast.specs.Aigs.{AigParts}
use Rattle.lab_certify.specs.Certificates.{IsUncertified, ShowsCertified, ShowsObligation}
use Rattle.lab_certify.specs.Claims.{HasNoClaim, last_part}
use Rattle.lab_top.specs.declared.answer.LabAnswer.{LabAnswer}
use Rattle.lab_top.specs.declared.answer.LabAnswer.TheVariants.{Usage, Refused, Written, Failed}

-- the answer of `obligation`, by a circuit
abbrev pub AnswersObligation : AigParts → List HostSpec → Option (List ℕ) → List ℕ → LabAnswer → Type 0
AnswersObligation circuit hosts name source Usage = ⊥
AnswersObligation circuit hosts name source (Refused fault) = HasNoClaim hosts name (last_part source) source fault
AnswersObligation circuit hosts name source (Written text) = ShowsObligation circuit hosts name source text
AnswersObligation circuit hosts name source (Failed text) = ⊥

-- the answer of `certify`, by a circuit
abbrev pub AnswersCertify : AigParts → List HostSpec → Option (List ℕ) → List ℕ → LabAnswer → Type 0
AnswersCertify circuit hosts name source Usage = ⊥
AnswersCertify circuit hosts name source (Refused fault) = IsUncertified circuit hosts name source fault
AnswersCertify circuit hosts name source (Written text) = ShowsCertified circuit hosts name source text
AnswersCertify circuit hosts name source (Failed text) = ⊥
