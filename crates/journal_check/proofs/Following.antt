-- Which line may follow, by what a line was read as.
use Rattle.std.proofs.Common.{◌≡◌, ℕ, List, [], ◌∷◌, ◌++◌, Some, None, Result, Ok, Err, sym, ap, subst, ◌∙◌, arith}
use Rattle.std.specs.Prelude.{OnOk}
use Rattle.kw_base.specs.Fault.{IfFault}
use Rattle.kw_base.specs.declared.fault.Fault.{Fault}
use Rattle.kw_base.specs.declared.fault.Refusal.{Refusal}
use Rattle.kw_base.specs.declared.fault.Refusal.TheVariants as refusals
use Rattle.typed_core.specs.declared.design.Parts.{Parts}
use Rattle.one_rule.specs.Stimulus.{InputVectors}
use Rattle.attempt_log.specs.declared.entry.Entry.{Entry}
use Rattle.journal_check.specs.Fitting.{IsSmall, LineFits}
use Rattle.journal_check.specs.Printing.{line_text}
use Rattle.journal_check.specs.Reading.{HasPlainNames, MayFollow, malformed_at}
use Rattle.journal_check.specs.inner.Steps.{Adds, IsMalformed, NoneIs}
use Rattle.journal_check.specs.declared.journal.Batch.{Batch}
use Rattle.journal_check.specs.declared.journal.Journal.{Journal}
use Rattle.journal_check.specs.declared.line.JournalLine.{JournalLine}
use Rattle.journal_check.specs.declared.line.JournalLine.TheVariants as line
use Rattle.journal_check.proofs.Adding.{adds_batch, adds_entry, follows_fits, no_batch, some_batch}
use Rattle.journal_check.proofs.OneReading.{one_line}

-- ---- the first line

first_small : (design : Parts) (stimulus : InputVectors) (l : JournalLine) → MayFollow design stimulus None l → LineFits design stimulus 0 l
first_small design stimulus (line.Begins count) h = h
first_small design stimulus (line.Batch from to) h = absurd h
first_small design stimulus (line.Entry e) h = absurd h

pub none_first : (design : Parts) (stimulus : InputVectors) (text : List ℕ) → (HasPlainNames design → NoneIs design (LineFits design stimulus 0) text) → HasPlainNames design → NoneIs design (MayFollow design stimulus None) text
none_first design stimulus text none names l may is = none names l (first_small design stimulus l may) is

pub batch_first : (design : Parts) (stimulus : InputVectors) (text : List ℕ) (from to : ℕ) → LineFits design stimulus 0 (line.Batch from to) → text ≡ line_text design (line.Batch from to) → HasPlainNames design → NoneIs design (MayFollow design stimulus None) text
batch_first design stimulus text from to fits was names l may is =
    subst (MayFollow design stimulus None) (one_line design stimulus 0 0 l (line.Batch from to) names (omega arith) (omega arith) (first_small design stimulus l may) fits (sym is ∙ was)) may

pub entry_first : (design : Parts) (stimulus : InputVectors) (text : List ℕ) (e : Entry) → LineFits design stimulus 0 (line.Entry e) → text ≡ line_text design (line.Entry e) → HasPlainNames design → NoneIs design (MayFollow design stimulus None) text
entry_first design stimulus text e fits was names l may is =
    subst (MayFollow design stimulus None) (one_line design stimulus 0 0 l (line.Entry e) names (omega arith) (omega arith) (first_small design stimulus l may) fits (sym is ∙ was)) may

abbrev pub IsBegins : JournalLine → Type 0
IsBegins (line.Begins count) = Unit {0}
IsBegins (line.Batch from to) = ⊥
IsBegins (line.Entry e) = ⊥

-- a line of another form doesn't come first
pub other_first : (design : Parts) (stimulus : InputVectors) (text : List ℕ) (l : JournalLine) → (IsBegins l → ⊥) → LineFits design stimulus 0 l → text ≡ line_text design l → HasPlainNames design → NoneIs design (MayFollow design stimulus None) text
other_first design stimulus text (line.Begins count) other fits was = absurd (other tt)
other_first design stimulus text (line.Batch from to) other fits was = batch_first design stimulus text from to fits was
other_first design stimulus text (line.Entry e) other fits was = entry_first design stimulus text e fits was

-- ---- later lines

pub none_later : (design : Parts) (stimulus : InputVectors) (journal : Journal) (text : List ℕ) → (HasPlainNames design → NoneIs design (LineFits design stimulus journal.workers) text) → HasPlainNames design
    → NoneIs design (MayFollow design stimulus (Some journal)) text
none_later design stimulus journal text none names l may is = none names l (follows_fits design stimulus journal l may) is

pub begins_later : (design : Parts) (stimulus : InputVectors) (journal : Journal) (text : List ℕ) (count : ℕ) → IsSmall journal.workers → LineFits design stimulus journal.workers (line.Begins count) → text ≡ line_text design (line.Begins count) → HasPlainNames design
    → NoneIs design (MayFollow design stimulus (Some journal)) text
begins_later design stimulus journal text count small fits was names l may is =
    subst (MayFollow design stimulus (Some journal)) (one_line design stimulus journal.workers journal.workers l (line.Begins count) names small small (follows_fits design stimulus journal l may) fits (sym is ∙ was)) may

pub entry_later : (design : Parts) (stimulus : InputVectors) (journal : Journal) (text : List ℕ) (e : Entry) → IsSmall journal.workers → LineFits design stimulus journal.workers (line.Entry e) → text ≡ line_text design (line.Entry e) → journal.batches ≡ [] → HasPlainNames design
    → NoneIs design (MayFollow design stimulus (Some journal)) text
entry_later design stimulus journal text e small fits was empty names l may is =
    no_batch design stimulus journal e empty (subst (MayFollow design stimulus (Some journal)) (one_line design stimulus journal.workers journal.workers l (line.Entry e) names small small (follows_fits design stimulus journal l may) fits (sym is ∙ was)) may)

-- the line for the workers doesn't come again
pub begins_again : (design : Parts) (stimulus : InputVectors) (journal : Journal) (text : List ℕ) (l : JournalLine) → IsBegins l → IsSmall journal.workers → LineFits design stimulus journal.workers l → text ≡ line_text design l → HasPlainNames design
    → NoneIs design (MayFollow design stimulus (Some journal)) text
begins_again design stimulus journal text (line.Begins count) is small fits was = begins_later design stimulus journal text count small fits was
begins_again design stimulus journal text (line.Batch from to) is small fits was = absurd is
begins_again design stimulus journal text (line.Entry e) is small fits was = absurd is

-- ---- what the call returns that adds a line

pub batch_added : (r : Result (Unit {0}) Refusal) (design : Parts) (stimulus : InputVectors) (old : Journal) (batches : List Batch) (from to number : ℕ) (text : List ℕ) (l : JournalLine)
    → OnOk r (batches ≡ old.batches ++ record { from = from; to = to; line = number; entries = []; lines = [] } ∷ []) → l ≡ line.Batch from to → LineFits design stimulus old.workers l → text ≡ line_text design l
    → OnOk r ((m : JournalLine) × MayFollow design stimulus (Some old) m × (text ≡ line_text design m) × Adds old (record { workers = old.workers; line = old.line; batches = batches }) number m)
batch_added (Ok x) design stimulus old batches from to number text l added is fits was =
    (line.Batch from to, subst (LineFits design stimulus old.workers) is fits, was ∙ ap (line_text design) is, adds_batch old batches from to number added)
batch_added (Err e) design stimulus old batches from to number text l added is fits was = tt

pub entry_added : (r : Result (Unit {0}) Refusal) (design : Parts) (stimulus : InputVectors) (old : Journal) (batches : List Batch) (e : Entry) (number : ℕ) (text : List ℕ) (l : JournalLine)
    → OnOk r ((front : List Batch) × (batch : Batch) × (old.batches ≡ front ++ batch ∷ []) × (batches ≡ front ++ record batch { entries = batch.entries ++ e ∷ []; lines = batch.lines ++ number ∷ [] } ∷ []))
    → l ≡ line.Entry e → LineFits design stimulus old.workers l → text ≡ line_text design l
    → OnOk r ((m : JournalLine) × MayFollow design stimulus (Some old) m × (text ≡ line_text design m) × Adds old (record { workers = old.workers; line = old.line; batches = batches }) number m)
entry_added (Ok x) design stimulus old batches e number text l added is fits was =
    (line.Entry e, (some_batch old added.0 added.1 added.2, subst (LineFits design stimulus old.workers) is fits), was ∙ ap (line_text design) is, adds_entry old batches added.0 added.1 e number added.2 added.3)
entry_added (Err f) design stimulus old batches e number text l added is fits was = tt

pub batch_refused : (r : Result (Unit {0}) Refusal) (P : Fault → Type 0) → IfFault r (λ (fault : Fault). ⊥) → IfFault r P
batch_refused (Ok x) P h = tt
batch_refused (Err (refusals.Fault fault)) P h = absurd h
batch_refused (Err refusals.NoMemory) P h = tt

pub entry_refused : (r : Result (Unit {0}) Refusal) (design : Parts) (stimulus : InputVectors) (journal : Journal) (text : List ℕ) (number : ℕ) (e : Entry) (l : JournalLine)
    → IfFault r (λ (fault : Fault). (fault ≡ malformed_at number) × (journal.batches ≡ [])) → l ≡ line.Entry e → IsSmall journal.workers → LineFits design stimulus journal.workers l → text ≡ line_text design l
    → IfFault r (IsMalformed design (MayFollow design stimulus (Some journal)) text number)
entry_refused (Ok x) design stimulus journal text number e l h is small fits was = tt
entry_refused (Err (refusals.Fault fault)) design stimulus journal text number e l h is small fits was =
    (h.0, entry_later design stimulus journal text e small (subst (LineFits design stimulus journal.workers) is fits) (was ∙ ap (line_text design) is) h.1)
entry_refused (Err refusals.NoMemory) design stimulus journal text number e l h is small fits was = tt
