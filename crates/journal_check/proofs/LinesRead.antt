-- Why a line is taken, and why it isn't.
use Rattle.std.proofs.Common.{◌≡◌, ℕ, ◌↔◌, Bool, true, false, true≢false, List, Option, Some, None, Err, refl, sym, ap, subst, ◌∙◌}
use Rattle.kw_base.specs.Fault.{IfFault}
use Rattle.kw_base.specs.declared.fault.Refusal.{Refusal}
use Rattle.kw_base.specs.declared.fault.Refusal.TheVariants as refusals
use Rattle.typed_core.specs.declared.design.Parts.{Parts}
use Rattle.one_rule.specs.Stimulus.{InputVectors}
use Rattle.attempt_log.specs.declared.entry.Entry.TheVariants as entry
use Rattle.attempt_log.specs.declared.entry.Settled.{Settled}
use Rattle.attempt_log.specs.declared.entry.Settled.TheVariants as settled
use Rattle.journal_check.specs.inner.Allowed.{Differs, IsAllowed}
use Rattle.journal_check.specs.Fitting.{IsSmall, LineFits, SettledFits}
use Rattle.journal_check.specs.Printing.{line_text}
use Rattle.journal_check.specs.Reading.{HasPlainNames, malformed_at}
use Rattle.journal_check.specs.inner.Steps.{IsMalformed, NoneIs, refusal_of}
use Rattle.journal_check.specs.inner.Tokens.{Reads, line_at, tokens_of}
use Rattle.kw_bits.specs.declared.failure.Failure.{Failure}
use Rattle.journal_check.specs.declared.token.Malformed.{Malformed}
use Rattle.kw_bits.specs.declared.failure.Failure.TheVariants as failures
use Rattle.journal_check.specs.declared.line.JournalLine.{JournalLine}
use Rattle.journal_check.specs.declared.line.JournalLine.TheVariants as line
use Rattle.journal_check.proofs.OneReading.{text_back}

-- the two values of an answer that fits differ
fits_differs : (design : Parts) (s : Settled) → SettledFits design s → Differs s
fits_differs design (settled.Committed cycle r) h = tt
fits_differs design (settled.Skipped cycle r why) h = tt
fits_differs design (settled.Stale cycle r read) h = h.2.differ
fits_differs design (settled.CycleClosed cycle) h = tt
fits_differs design (settled.Waiting cycle r) h = tt
fits_differs design settled.Finished h = tt

-- the numbers of a line that fits are in their ranges
fits_allowed : (design : Parts) (stimulus : InputVectors) (workers : ℕ) (l : JournalLine) → LineFits design stimulus workers l → IsAllowed workers l
fits_allowed design stimulus workers (line.Begins count) h = h
fits_allowed design stimulus workers (line.Batch from to) h = tt
fits_allowed design stimulus workers (line.Entry (entry.Submit worker cycle r inputs events ending answer)) h = (h.0, h.1, h.2)
fits_allowed design stimulus workers (line.Entry (entry.Settle worker answer)) h = (h.0, fits_differs design answer h.1)

none_some : {X : Type 0} (x : X) → None ≡ Some x → ⊥
none_some x h = absurd (cc)

abbrev pub value_or : {X : Type 0} → X → Option X → X
value_or x None = x
value_or x (Some y) = y

-- nothing is read
pub unread : (design : Parts) (stimulus : InputVectors) (workers : ℕ) (text : List ℕ) → IsSmall workers → line_at design stimulus (tokens_of text) ≡ None → HasPlainNames design → NoneIs design (LineFits design stimulus workers) text
unread design stimulus workers text small none names l fits is =
    none_some l (sym none ∙ ap (λ (t : List ℕ). line_at design stimulus (tokens_of t)) is ∙ text_back design stimulus workers l names small fits)

-- what is read is the only line that may be printed so
pub only : (design : Parts) (stimulus : InputVectors) (workers : ℕ) (text : List ℕ) (m : JournalLine) → IsSmall workers → line_at design stimulus (tokens_of text) ≡ Some m → HasPlainNames design
    → (l : JournalLine) → LineFits design stimulus workers l → text ≡ line_text design l → m ≡ l
only design stimulus workers text m small read names l fits is =
    ap (value_or m) (sym read ∙ ap (λ (t : List ℕ). line_at design stimulus (tokens_of t)) is ∙ text_back design stimulus workers l names small fits)

-- its numbers aren't in their ranges
pub not_allowed : (design : Parts) (stimulus : InputVectors) (workers : ℕ) (text : List ℕ) (m : JournalLine) → IsSmall workers → line_at design stimulus (tokens_of text) ≡ Some m → ¬ (IsAllowed workers m) → HasPlainNames design
    → NoneIs design (LineFits design stimulus workers) text
not_allowed design stimulus workers text m small read not names l fits is =
    not (subst (IsAllowed workers) (sym (only design stimulus workers text m small read names l fits is)) (fits_allowed design stimulus workers l fits))

-- it isn't printed so
pub not_printed : (design : Parts) (stimulus : InputVectors) (workers : ℕ) (text : List ℕ) (m : JournalLine) → IsSmall workers → line_at design stimulus (tokens_of text) ≡ Some m → ¬ (line_text design m ≡ text) → HasPlainNames design
    → NoneIs design (LineFits design stimulus workers) text
not_printed design stimulus workers text m small read not names l fits is =
    not (ap (line_text design) (only design stimulus workers text m small read names l fits is) ∙ sym is)

-- a line is refused for its form
pub refused : (design : Parts) (P : JournalLine → Type 0) (text : List ℕ) (number : ℕ) (refusal : Refusal) → refusal ≡ refusals.Fault (malformed_at number) → (HasPlainNames design → NoneIs design P text)
    → IfFault {X = ℕ} (Err refusal) (IsMalformed design P text number)
refused design P text number refusal is none = subst (λ (r : Refusal). IfFault {X = ℕ} (Err r) (IsMalformed design P text number)) (sym is) (refl, none)

-- by what the reader of tokens returned
pub unread_refused : (design : Parts) (stimulus : InputVectors) (workers : ℕ) (text : List ℕ) (number : ℕ) (flaw : Failure Malformed) (refusal : Refusal) → IsSmall workers → refusal ≡ refusal_of flaw number
    → Reads {X = JournalLine} (λ l. l) (Err flaw) (line_at design stimulus (tokens_of text)) → IfFault {X = ℕ} (Err refusal) (IsMalformed design (LineFits design stimulus workers) text number)
unread_refused design stimulus workers text number (failures.Why malformed) refusal small is none =
    refused design (LineFits design stimulus workers) text number refusal is (unread design stimulus workers text small none)
unread_refused design stimulus workers text number failures.NoMemory refusal small is none =
    subst (λ (r : Refusal). IfFault {X = ℕ} (Err r) (IsMalformed design (LineFits design stimulus workers) text number)) (sym is) tt

-- by a test that failed
pub fails : {A : Type 0} (b : Bool) → (b ≡ true) ↔ A → b ≡ false → ¬ A
fails b h is a = absurd (true≢false (sym (h.1 a) ∙ is))
