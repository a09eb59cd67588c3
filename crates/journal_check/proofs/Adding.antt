-- A journal grows line by line, and where it doesn't go on.
use Rattle.std.proofs.Common.{◌≡◌, ℕ, suc, ◌+◌, ◌<◌, ◌≤◌, List, [], ◌∷◌, ◌++◌, length, length-append, map, Some, None, Err, refl, sym, ap, ap₂, subst, ◌∙◌, append_assoc, append-nil, min, arith}
use Rattle.std.specs.List.{AllByRecursion, flat_map}
use Rattle.std.proofs.lemmas.Grind.{flat_map-append}
use Rattle.attempt_log.specs.declared.entry.Entry.{Entry}
use Rattle.std.proofs.lemmas.List.{map-append}
use Rattle.kw_base.specs.Fault.{IfFault}
use Rattle.kw_base.specs.Place.{capped}
use Rattle.kw_base.specs.declared.fault.Fault.{Fault}
use Rattle.kw_base.specs.declared.fault.Refusal.{Refusal}
use Rattle.kw_base.specs.declared.fault.Refusal.TheVariants as refusals
use Rattle.typed_core.specs.declared.design.Parts.{Parts}
use Rattle.one_rule.specs.Stimulus.{InputVectors}
use Rattle.kw_base.specs.Texts.{lines_of}
use Rattle.journal_check.specs.Fitting.{IsSmall, LineFits}
use Rattle.journal_check.specs.Journals.{lines_in, lines_of_batch, numbers_of_batch}
use Rattle.journal_check.specs.Printing.{ended, line_text, text_of}
use Rattle.journal_check.specs.Reading.{AreJournalLines, IsFirstMalformed, IsNumbered, MayFollow, NoneFollows, malformed_at, number_after, numbers_from}
use Rattle.journal_check.specs.inner.Steps.{Adds, HasRead, IsMalformed}
use Rattle.journal_check.specs.declared.journal.Batch.{Batch}
use Rattle.journal_check.specs.declared.journal.Journal.{Journal}
use Rattle.journal_check.specs.declared.line.JournalLine.{JournalLine}
use Rattle.journal_check.specs.declared.line.JournalLine.TheVariants as line

-- one more at the end
all_push : {X : Type 0} (P : X → Type 0) (xs : List X) (x : X) → AllByRecursion P xs → P x → AllByRecursion P (xs ++ x ∷ [])
all_push P [] x all h = (h, tt)
all_push P (y ∷ ys) x all h = (all.0, all_push P ys x all.1 h)

numbers_push : (texts : List (List ℕ)) (n : ℕ) (text : List ℕ) → n ≤ 4294967295 → numbers_from n (texts ++ text ∷ []) ≡ numbers_from n texts ++ number_after n (length texts) ∷ []
numbers_push [] n text few =
    let alone : n ≡ min (n + 0) 4294967295 = omega (arith, few) in
    ap (λ (k : ℕ). k ∷ []) alone
numbers_push (x ∷ texts) n text few =
    let k = length texts in
    let same : min (min (n + 1) 4294967295 + k) 4294967295 ≡ min (n + suc k) 4294967295 = omega arith in
    ap (λ (ns : List ℕ). n ∷ ns) (numbers_push texts (capped (n + 1)) text (omega arith) ∙ ap (λ (m : ℕ). numbers_from (capped (n + 1)) texts ++ m ∷ []) same)

-- a line that may follow fits
pub follows_fits : (design : Parts) (stimulus : InputVectors) (journal : Journal) (l : JournalLine) → MayFollow design stimulus (Some journal) l → LineFits design stimulus journal.workers l
follows_fits design stimulus journal (line.Begins count) h = absurd h
follows_fits design stimulus journal (line.Batch from to) h = h
follows_fits design stimulus journal (line.Entry e) h = h.1

-- a journal with one more line
grows : (design : Parts) (stimulus : InputVectors) (first_line : ℕ) (texts : List (List ℕ)) (text : List ℕ) (old new : Journal) (l : JournalLine) → first_line ≤ 4294967295
    → AreJournalLines design stimulus first_line texts old → MayFollow design stimulus (Some old) l → text ≡ line_text design l → Adds old new (number_after first_line (length texts)) l
    → AreJournalLines design stimulus first_line (texts ++ text ∷ []) new
grows design stimulus first_line texts text old new l few are may is adds = record {
  lines =
      ap₂ (λ (ts : List (List ℕ)) (t : List ℕ). ts ++ t ∷ []) are.lines is
      ∙ sym (map-append (line_text design) (lines_in old) (l ∷ []))
      ∙ ap (map (line_text design)) (sym adds.lines);
  fit =
      subst (λ (ls : List JournalLine). AllByRecursion (LineFits design stimulus new.workers) ls) (sym adds.lines)
      (subst (λ (w : ℕ). AllByRecursion (LineFits design stimulus w) (lines_in old ++ l ∷ [])) (sym adds.workers)
      (all_push (LineFits design stimulus old.workers) (lines_in old) l are.fit (follows_fits design stimulus old l may)));
  numbers = adds.numbers ∙ ap (λ (ns : List ℕ). ns ++ number_after first_line (length texts) ∷ []) are.numbers ∙ sym (numbers_push texts first_line text few);
  counts = adds.counts are.counts;
}

-- the first line of a text begins a journal
pub begins : (design : Parts) (stimulus : InputVectors) (first_line workers : ℕ) (text rest head : List ℕ) → first_line ≤ 4294967295 → lines_of text ≡ head ∷ lines_of rest → LineFits design stimulus workers (line.Begins workers) → head ≡ line_text design (line.Begins workers)
    → HasRead design stimulus first_line text rest (capped (first_line + 1)) (record { workers = workers; line = first_line; batches = [] })
begins design stimulus first_line workers text rest head few cut fits is = record {
  before = head ∷ [];
  lines = cut;
  are = record { lines = ap (λ (t : List ℕ). t ∷ []) is; fit = (fits, tt); numbers = refl; counts = tt };
  number_is = refl;
}

-- a later line goes on with it
pub goes_on : (design : Parts) (stimulus : InputVectors) (first_line number : ℕ) (text rest head more : List ℕ) (old new : Journal) → first_line ≤ 4294967295 → HasRead design stimulus first_line text rest number old → lines_of rest ≡ head ∷ lines_of more
    → ((l : JournalLine) × MayFollow design stimulus (Some old) l × (head ≡ line_text design l) × Adds old new number l)
    → HasRead design stimulus first_line text more (capped (number + 1)) new
goes_on design stimulus first_line number text rest head more old new few read cut added =
    let k = length read.before in
    let longer : length (read.before ++ head ∷ []) ≡ k + 1 = length-append read.before (head ∷ []) in
    let next : min (min (first_line + k) 4294967295 + 1) 4294967295 ≡ min (first_line + (k + 1)) 4294967295 = omega arith in
    record {
      before = read.before ++ head ∷ [];
      lines = read.lines ∙ ap (λ (ls : List (List ℕ)). read.before ++ ls) cut ∙ sym (append_assoc read.before (head ∷ []) (lines_of more));
      are = grows design stimulus first_line read.before head old new added.0 few read.are added.1 added.2 (subst (λ (n : ℕ). Adds old new n added.0) read.number_is added.3);
      number_is = ap (λ (n : ℕ). capped (n + 1)) read.number_is ∙ next ∙ ap (λ (n : ℕ). capped (first_line + n)) (sym longer);
    }

-- where all lines are read
pub ends : (design : Parts) (stimulus : InputVectors) (first_line number : ℕ) (text rest : List ℕ) (journal : Journal) → HasRead design stimulus first_line text rest number journal → lines_of rest ≡ [] → AreJournalLines design stimulus first_line (lines_of text) journal
ends design stimulus first_line number text rest journal read none =
    subst (λ (ls : List (List ℕ)). AreJournalLines design stimulus first_line ls journal) (sym (read.lines ∙ ap (λ (ls : List (List ℕ)). read.before ++ ls) none ∙ append-nil read.before)) read.are

-- ---- how reading begins, goes on and is refused

-- after the first line
pub begun : (design : Parts) (stimulus : InputVectors) (first_line workers number : ℕ) (text rest : List ℕ) (batches : List Batch) → first_line ≤ 4294967295 → LineFits design stimulus workers (line.Begins workers)
    → lines_of text ≡ line_text design (line.Begins workers) ∷ lines_of rest → number ≡ capped (first_line + 1) → batches ≡ [] → HasRead design stimulus first_line text rest number (record { workers = workers; line = first_line; batches = batches })
begun design stimulus first_line workers number text rest batches few fits cut next none =
    subst (λ (n : ℕ). HasRead design stimulus first_line text rest n (record { workers = workers; line = first_line; batches = batches })) (sym next)
    (subst (λ (bs : List Batch). HasRead design stimulus first_line text rest (capped (first_line + 1)) (record { workers = workers; line = first_line; batches = bs })) (sym none)
    (begins design stimulus first_line workers text rest (line_text design (line.Begins workers)) few cut fits refl))

-- after a later line
pub going_on : (design : Parts) (stimulus : InputVectors) (first_line number next : ℕ) (text rest head more : List ℕ) (old new : Journal) → first_line ≤ 4294967295 → HasRead design stimulus first_line text rest number old → lines_of rest ≡ head ∷ lines_of more
    → ((l : JournalLine) × MayFollow design stimulus (Some old) l × (head ≡ line_text design l) × Adds old new number l) → next ≡ capped (number + 1) → HasRead design stimulus first_line text more next new
going_on design stimulus first_line number next text rest head more old new few read cut added is =
    subst (λ (n : ℕ). HasRead design stimulus first_line text more n new) (sym is) (goes_on design stimulus first_line number text rest head more old new few read cut added)

-- there are at most 8 workers
pub has_few : (design : Parts) (stimulus : InputVectors) (first_line number : ℕ) (text rest : List ℕ) (journal : Journal) → HasRead design stimulus first_line text rest number journal → IsSmall journal.workers
has_few design stimulus first_line number text rest journal read = omega (arith, read.are.fit.0.1)

-- a fault of a part is one of the whole
pub passes : (refusal : Refusal) (P Q : Fault → Type 0) → IfFault {X = ℕ} (Err refusal) P → ((fault : Fault) → P fault → Q fault) → IfFault {X = ℕ} (Err refusal) Q
passes (refusals.Fault fault) P Q h f = f fault h
passes refusals.NoMemory P Q h f = tt

-- no text begins so
pub no_lines : (design : Parts) (stimulus : InputVectors) (text : List ℕ) (number : ℕ) (refusal : Refusal) → refusal ≡ refusals.Fault (malformed_at number) → lines_of text ≡ []
    → IfFault {X = ℕ} (Err refusal) (λ (fault : Fault). (fault ≡ malformed_at number) × NoneFollows design stimulus None (lines_of text))
no_lines design stimulus text number refusal is none =
    subst (λ (r : Refusal). IfFault {X = ℕ} (Err r) (λ (fault : Fault). (fault ≡ malformed_at number) × NoneFollows design stimulus None (lines_of text))) (sym is)
    (refl, subst (NoneFollows design stimulus None) (sym none) refl)

pub no_beginning : (design : Parts) (stimulus : InputVectors) (text head : List ℕ) (more : List (List ℕ)) (number : ℕ) (refusal : Refusal) → lines_of text ≡ head ∷ more
    → IfFault {X = ℕ} (Err refusal) (IsMalformed design (MayFollow design stimulus None) head number)
    → IfFault {X = ℕ} (Err refusal) (λ (fault : Fault). (fault ≡ malformed_at number) × NoneFollows design stimulus None (lines_of text))
no_beginning design stimulus text head more number (refusals.Fault fault) cut h = (h.0, subst (NoneFollows design stimulus None) (sym cut) h.1)
no_beginning design stimulus text head more number refusals.NoMemory cut h = tt

-- the first line is malformed
pub refused_beginning : (design : Parts) (stimulus : InputVectors) (first_line : ℕ) (text : List ℕ) (refusal : Refusal) → first_line ≤ 4294967295
    → IfFault {X = ℕ} (Err refusal) (λ (fault : Fault). (fault ≡ malformed_at first_line) × NoneFollows design stimulus None (lines_of text))
    → IfFault {X = ℕ} (Err refusal) (IsFirstMalformed design stimulus first_line text)
refused_beginning design stimulus first_line text (refusals.Fault fault) few h = record {
  before = [];
  rest = lines_of text;
  front = None;
  lines = refl;
  are = refl;
  none = h.1;
  fault_is = let alone : first_line ≡ min (first_line + 0) 4294967295 = omega (arith, few) in h.0 ∙ ap malformed_at alone;
}
refused_beginning design stimulus first_line text refusals.NoMemory few h = tt

-- a later line is malformed
pub refused_later : (design : Parts) (stimulus : InputVectors) (first_line number : ℕ) (text rest head : List ℕ) (more : List (List ℕ)) (journal : Journal) (refusal : Refusal)
    → HasRead design stimulus first_line text rest number journal → lines_of rest ≡ head ∷ more → IfFault {X = ℕ} (Err refusal) (IsMalformed design (MayFollow design stimulus (Some journal)) head number)
    → IfFault {X = ℕ} (Err refusal) (IsFirstMalformed design stimulus first_line text)
refused_later design stimulus first_line number text rest head more journal (refusals.Fault fault) read cut h = record {
  before = read.before;
  rest = head ∷ more;
  front = Some journal;
  lines = read.lines ∙ ap (λ (ls : List (List ℕ)). read.before ++ ls) cut;
  are = read.are;
  none = h.1;
  fault_is = h.0 ∙ ap malformed_at read.number_is;
}
refused_later design stimulus first_line number text rest head more journal refusals.NoMemory read cut h = tt

-- ---- a batch and an entry

pub adds_batch : (old : Journal) (batches : List Batch) (from to number : ℕ) → batches ≡ old.batches ++ record { from = from; to = to; line = number; entries = []; lines = [] } ∷ []
    → Adds old (record { workers = old.workers; line = old.line; batches = batches }) number (line.Batch from to)
adds_batch old batches from to number is =
    let b : Batch = record { from = from; to = to; line = number; entries = []; lines = [] } in
    record {
      workers = refl;
      lines = ap (λ (bs : List Batch). line.Begins old.workers ∷ flat_map lines_of_batch bs) is ∙ ap (λ (ls : List JournalLine). line.Begins old.workers ∷ ls) (flat_map-append lines_of_batch old.batches (b ∷ []));
      numbers = ap (λ (bs : List Batch). old.line ∷ flat_map numbers_of_batch bs) is ∙ ap (λ (ns : List ℕ). old.line ∷ ns) (flat_map-append numbers_of_batch old.batches (b ∷ []));
      counts = λ all. subst (AllByRecursion IsNumbered) (sym is) (all_push IsNumbered old.batches b all refl);
    }

counts_kept : (front : List Batch) (batch : Batch) (e : Entry) (number : ℕ) → AllByRecursion IsNumbered (front ++ batch ∷ [])
    → AllByRecursion IsNumbered (front ++ record batch { entries = batch.entries ++ e ∷ []; lines = batch.lines ++ number ∷ [] } ∷ [])
counts_kept [] batch e number all = (omega (arith, all.0, length-append batch.lines (number ∷ []), length-append batch.entries (e ∷ [])), tt)
counts_kept (b ∷ front) batch e number all = (all.0, counts_kept front batch e number all.1)

-- the last of what a list gives, with one more
last_grows : {X Y : Type 0} (f : X → List Y) (front : List X) (x x' : X) (y : Y) → f x' ≡ f x ++ y ∷ [] → flat_map f (front ++ x' ∷ []) ≡ flat_map f (front ++ x ∷ []) ++ y ∷ []
last_grows {X} {Y} f front x x' y is =
    flat_map-append f front (x' ∷ [])
    ∙ ap (λ (ys : List Y). flat_map f front ++ ys) (append-nil (f x') ∙ is ∙ ap (λ (ys : List Y). ys ++ y ∷ []) (sym (append-nil (f x))))
    ∙ sym (append_assoc (flat_map f front) (flat_map f (x ∷ [])) (y ∷ []))
    ∙ ap (λ (ys : List Y). ys ++ y ∷ []) (sym (flat_map-append f front (x ∷ [])))

pub adds_entry : (old : Journal) (batches front : List Batch) (batch : Batch) (e : Entry) (number : ℕ) → old.batches ≡ front ++ batch ∷ []
    → batches ≡ front ++ record batch { entries = batch.entries ++ e ∷ []; lines = batch.lines ++ number ∷ [] } ∷ []
    → Adds old (record { workers = old.workers; line = old.line; batches = batches }) number (line.Entry e)
adds_entry old batches front batch e number was is =
    let more : Batch = record batch { entries = batch.entries ++ e ∷ []; lines = batch.lines ++ number ∷ [] } in
    let lines_grow : lines_of_batch more ≡ lines_of_batch batch ++ line.Entry e ∷ [] = ap (λ (ls : List JournalLine). line.Batch batch.from batch.to ∷ ls) (map-append line.Entry batch.entries (e ∷ [])) in
    record {
      workers = refl;
      lines =
          ap (λ (bs : List Batch). line.Begins old.workers ∷ flat_map lines_of_batch bs) is
          ∙ ap (λ (ls : List JournalLine). line.Begins old.workers ∷ ls) (last_grows lines_of_batch front batch more (line.Entry e) lines_grow)
          ∙ ap (λ (bs : List Batch). line.Begins old.workers ∷ flat_map lines_of_batch bs ++ line.Entry e ∷ []) (sym was);
      numbers =
          ap (λ (bs : List Batch). old.line ∷ flat_map numbers_of_batch bs) is
          ∙ ap (λ (ns : List ℕ). old.line ∷ ns) (last_grows numbers_of_batch front batch more number refl)
          ∙ ap (λ (bs : List Batch). old.line ∷ flat_map numbers_of_batch bs ++ number ∷ []) (sym was);
      counts = λ all. subst (AllByRecursion IsNumbered) (sym is) (counts_kept front batch e number (subst (AllByRecursion IsNumbered) was all));
    }

-- where there is no batch, no entry may follow
pub no_batch : (design : Parts) (stimulus : InputVectors) (journal : Journal) (e : Entry) → journal.batches ≡ [] → MayFollow design stimulus (Some journal) (line.Entry e) → ⊥
no_batch design stimulus journal e none may = absurd (omega (arith, may.0, ap length none))

pub some_batch : (journal : Journal) (front : List Batch) (batch : Batch) → journal.batches ≡ front ++ batch ∷ [] → 0 < length journal.batches
some_batch journal front batch is = omega (arith, ap length is, length-append front (batch ∷ []))

-- what is printed of lines
pub printed_lines : (design : Parts) (ls : List JournalLine) → text_of design ls ≡ flat_map ended (map (line_text design) ls)
printed_lines design [] = refl
printed_lines design (l ∷ ls) = ap (λ (rest : List ℕ). ended (line_text design l) ++ rest) (printed_lines design ls)
