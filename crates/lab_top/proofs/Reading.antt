-- What was read of a source is what the lab answers of it.
use Rattle.std.proofs.Common.{◌≡◌, ◌<◌, ◌&&◌, ℕ, Bool, true, false, List, length, Option, Some, Result, Ok, Err, sym, ap, ◌∙◌, inl, inr}
use Rattle.std.specs.Prelude.{IfOk}
use Rattle.kw_base.specs.Fault.{IfFault}
use Rattle.kw_base.specs.declared.fault.Refusal.{Refusal}
use Rattle.kw_base.specs.declared.fault.Refusal.TheVariants as refusals
use Rattle.kw_base.specs.declared.fault.Fault.{Fault}
use Rattle.kw_bits.specs.declared.host.HostSpec.{HostSpec}
use Rattle.aig_blast.specs.Aigs.{AigParts}
use Rattle.typed_core.specs.Valid.{IsValid}
use Rattle.typed_core.specs.declared.design.Parts.{Parts}
use Rattle.koika_check.specs.declared.checked.Checked.{Checked}
use Rattle.koika_lower.specs.Lowering.{IsLowered}
use Rattle.one_rule.specs.Stimulus.{InputVectors, inputs_of}
use Rattle.front_end.specs.Lengths.{is_too_long_for}
use Rattle.front_end.specs.Sources.{IsUnspelled, Spells, fault_of_source}
use Rattle.front_end.specs.inner.Steps.{Makes}
use Rattle.front_end.proofs.OneSource.{same_outcome}
use Rattle.lint_text.specs.Findings.{is_set, order_of}
use Rattle.lint_text.specs.Notes.{notes}
use Rattle.lint_text.specs.Text.{notes_text}
use Rattle.lint_text.specs.declared.findings.Findings.{Findings}
use Rattle.lint_text.specs.declared.places.Places.{Places}
use Rattle.lab_certify.specs.Certificates.{IsUncertified, ShowsCertified, ShowsObligation}
use Rattle.lab_certify.specs.Claims.{HasNoClaim, last_part}
use Rattle.lab_top.specs.Answer.{Answers}
use Rattle.lab_top.specs.Certify.{AnswersCertify, AnswersObligation}
use Rattle.lab_top.specs.Lint.{AnswersLint}
use Rattle.lab_top.specs.OfDesigns.{AnswersOf, TellsOf}
use Rattle.lab_top.specs.Profile.{AnswersProfile, CountsRun}
use Rattle.lab_top.specs.Runs.{asked_of, waves_in, why_text}
use Rattle.lab_top.specs.Waves.{AnswersWaves}
use Rattle.lab_top.specs.Why.{AnswersWhy, last_of}
use Rattle.lab_top.specs.inner.Lint.{AreNoted, lint_text}
use Rattle.lab_top.specs.inner.Steps.{answer_if, longest_of, no_circuit, text_if}
use Rattle.lab_top.specs.declared.answer.LabAnswer.TheVariants.{Refused, Written}
use Rattle.lab_top.specs.declared.words.Command.{Command}
use Rattle.lab_top.specs.declared.words.Command.TheVariants.{Why, Profile, Waves, Verilog, Lint, Obligation, Certify}
use Rattle.lab_top.proofs.LintNotes.{complete}

-- a source that is too long is refused by each command
pub refuses-long : (circuit : AigParts) (hosts : List HostSpec) (command : Command) (fault : Fault) → fault ≡ fault_of_source 40
    → (bytes : List ℕ) → longest_of command < length bytes → Answers circuit hosts command bytes (Refused fault)
refuses-long circuit hosts (Why cycle cycles name) fault is bytes long = inl (inl (is, long))
refuses-long circuit hosts (Profile cycles is_strict) fault is bytes long = inl (is, long)
refuses-long circuit hosts (Waves cycles) fault is bytes long = inl (is, long)
refuses-long circuit hosts (Verilog ports) fault is bytes long = inl (is, long)
refuses-long circuit hosts Lint fault is bytes long = inl (is, long)
refuses-long circuit hosts (Obligation name) fault is bytes long = inl (inl (is, inl long))
refuses-long circuit hosts (Certify name) fault is bytes long = inl (inl (inl (is, inl long)))

-- the text of a run that was read
pub shows-why : (hosts : List HostSpec) (cycle cycles : ℕ) (name : Option (List ℕ)) (source : List ℕ) (d : Checked) (s : InputVectors) (c n : ℕ) (only : Option ℕ) → Spells hosts source d s → c ≡ cycle → n ≡ cycles
    → is_too_long_for (last_of c n) d ≡ false → asked_of d name ≡ Some only → AnswersWhy hosts cycle cycles name source (Written (why_text d only (inputs_of s) c n))
shows-why hosts cycle cycles name source d s c n only spelled from count within asked = record {
  design = d;
  stimulus = s;
  spelled = spelled;
  within = (λ i. is_too_long_for (last_of (sym from i) (sym count i)) d) ∙ within;
  only = only;
  asked = asked;
  told = λ i. why_text d only (inputs_of s) (from i) (count i);
}

-- the text of numbers that were counted
pub shows-profile : (hosts : List HostSpec) (cycles : ℕ) (is_strict : Bool) (source text : List ℕ) (in_doubt fails : Bool) → fails ≡ (is_strict && in_doubt) → CountsRun hosts cycles source text in_doubt
    → AnswersProfile hosts cycles is_strict source (text_if fails text)
shows-profile hosts cycles is_strict source text in_doubt false is counts = (in_doubt, counts, is)
shows-profile hosts cycles is_strict source text in_doubt true is counts = (in_doubt, counts, is)

-- the dump of a run that was read
pub shows-waves : (hosts : List HostSpec) (cycles : ℕ) (source : List ℕ) (d : Checked) (s : InputVectors) (n : ℕ) → Spells hosts source d s → n ≡ cycles → is_too_long_for n d ≡ false
    → AnswersWaves hosts cycles source (Written (waves_in d (inputs_of s) n))
shows-waves hosts cycles source d s n spelled count within = record {
  design = d;
  stimulus = s;
  spelled = spelled;
  within = (λ i. is_too_long_for (sym count i) d) ∙ within;
  told = λ i. waves_in d (inputs_of s) (count i);
}

-- what was made of a source's design
pub makes-of : (IsTextOf : Checked → List ℕ → Type 0) (hosts : List HostSpec) (source : List ℕ) (made : Result (List ℕ) Refusal) → IfOk made (TellsOf IsTextOf hosts source) → IfFault made (IsUnspelled hosts source)
    → Makes (λ answer. AnswersOf IsTextOf hosts source (answer_if false answer)) made
makes-of IsTextOf hosts source (Ok text) told refused = told
makes-of IsTextOf hosts source (Err (refusals.Fault fault)) told refused = inr refused
makes-of IsTextOf hosts source (Err refusals.NoMemory) told refused = tt

-- the notes of a design that was read
pub shows-lint : (hosts : List HostSpec) (source : List ℕ) (d : Checked) (s : InputVectors) (design : Parts) (places : Places) (findings : Findings) → Spells hosts source d s → IsLowered d design → IsValid design
    → AreNoted source d places findings → AnswersLint hosts source (Written (lint_text d places findings))
shows-lint hosts source d s design places findings spelled lowered valid noted = record {
  design = d;
  stimulus = s;
  spelled = spelled;
  told = record {
    spelled = record {
      tree = noted.tree;
      spelled = noted.spelled;
      typed = same_outcome hosts source noted.tree spelled.spelled.tree noted.spelled spelled.spelled.spelled ∙ spelled.spelled.typed;
    };
    noted = record {
      order = order_of findings;
      is_order = noted.found.order;
      is_never = is_set findings.never;
      never = noted.never;
      told = ap (λ (names : Places). notes_text d names (notes (order_of findings) (is_set findings.never) d)) noted.at;
      complete = complete d (order_of findings) (is_set findings.never) design (record { typed = noted.found.typed; lowered = lowered; valid = valid }) noted.found.order;
    };
  };
}

module _ (hosts : List HostSpec) (name : Option (List ℕ)) (source : List ℕ) where
  -- the clauses that were made for a source's claim, by some circuit
  pub makes-obligation : (made : Result (List ℕ) Refusal)
      → IfOk made (λ text. (circuit : AigParts) × ShowsObligation circuit hosts name source text)
      → IfFault made (HasNoClaim hosts name (last_part source) source) → (circuit : AigParts)
      × Makes (λ answer. AnswersObligation circuit hosts name source (answer_if false answer)) made
  makes-obligation (Ok text) shows refused = shows
  makes-obligation (Err (refusals.Fault fault)) shows refused = (no_circuit, refused)
  makes-obligation (Err refusals.NoMemory) shows refused = (no_circuit, tt)

  -- what was certified of it
  pub makes-certified : (made : Result (List ℕ) Refusal)
      → IfOk made (λ text. (circuit : AigParts) × ShowsCertified circuit hosts name source text)
      → IfFault made (λ fault. (circuit : AigParts) × IsUncertified circuit hosts name source fault)
      → (circuit : AigParts) × Makes (λ answer. AnswersCertify circuit hosts name source (answer_if false answer)) made
  makes-certified (Ok text) shows refused = shows
  makes-certified (Err (refusals.Fault fault)) shows refused = refused
  makes-certified (Err refusals.NoMemory) shows refused = (no_circuit, tt)
