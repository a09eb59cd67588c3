-- A text is one journal or none, and one that is a journal has no malformed line; no two lines are the first malformed one.
use Rattle.std.proofs.Common.{◌≡◌, ℕ, ◌<◌, List, [], ◌∷◌, ◌++◌, length, map, Option, Some, None, refl, sym, ap, ap₂, subst, ◌∙◌, arith}
use Rattle.std.specs.List.{AllByRecursion, flat_map}
use Rattle.typed_core.specs.declared.design.Parts.{Parts}
use Rattle.one_rule.specs.Stimulus.{InputVectors}
use Rattle.attempt_log.specs.declared.entry.Entry.{Entry}
use Rattle.kw_base.specs.declared.fault.Fault.{Fault}
use Rattle.kw_base.specs.Texts.{lines_of}
use Rattle.journal_check.specs.Fitting.{IsSmall, LineFits}
use Rattle.journal_check.specs.Journals.{lines_in, lines_of_batch, journal_lines, numbers_of_batch}
use Rattle.journal_check.specs.Printing.{ended, journal_text, line_text}
use Rattle.journal_check.specs.Reading.{AreFront, AreJournalLines, HasPlainNames, IsFirstMalformed, IsJournal, IsNumbered, MayFollow, NoneFollows, malformed_at, number_after}
use Rattle.journal_check.specs.declared.journal.Batch.{Batch}
use Rattle.journal_check.specs.declared.journal.Journal.{Journal}
use Rattle.journal_check.specs.declared.line.JournalLine.{JournalLine}
use Rattle.journal_check.specs.declared.line.JournalLine.TheVariants as line
use Rattle.journal_check.proofs.Adding.{printed_lines}
use Rattle.journal_check.proofs.OneReading.{one_line}

-- what was read is printed as its lines
pub printed_back : (design : Parts) (stimulus : InputVectors) (first_line : ℕ) (text : List ℕ) (journal : Journal) → IsJournal design stimulus first_line text journal → journal_text design journal ≡ flat_map ended (lines_of text)
printed_back design stimulus first_line text journal is = printed_lines design (lines_in journal) ∙ ap (flat_map ended) (sym is.lines)

-- ---- lists

abbrev first_or : {X : Type 0} → X → List X → X
first_or x [] = x
first_or x (y ∷ ys) = y

abbrev rest_of : {X : Type 0} → List X → List X
rest_of [] = []
rest_of (y ∷ ys) = ys

all_left : {X : Type 0} (P : X → Type 0) (xs ys : List X) → AllByRecursion P (xs ++ ys) → AllByRecursion P xs
all_left P [] ys all = tt
all_left P (x ∷ xs) ys all = (all.0, all_left P xs ys all.1)

all_right : {X : Type 0} (P : X → Type 0) (xs ys : List X) → AllByRecursion P (xs ++ ys) → AllByRecursion P ys
all_right P [] ys all = all
all_right P (x ∷ xs) ys all = all_right P xs ys all.1

all_both : {X : Type 0} (P : X → Type 0) (xs ys : List X) → AllByRecursion P xs → AllByRecursion P ys → AllByRecursion P (xs ++ ys)
all_both P [] ys left right = right
all_both P (x ∷ xs) ys left right = (left.0, all_both P xs ys left.1 right)

-- two lists of one length before two others
same_fronts : {X : Type 0} (xs ys these those : List X) → length xs ≡ length ys → xs ++ these ≡ ys ++ those → (xs ≡ ys) × (these ≡ those)
same_fronts [] [] these those long same = (refl, same)
same_fronts [] (y ∷ ys) these those long same = absurd (omega (arith, long))
same_fronts (x ∷ xs) [] these those long same = absurd (omega (arith, long))
same_fronts {X} (x ∷ xs) (y ∷ ys) these those long same =
    let rests = same_fronts xs ys these those (omega (arith, long)) (ap rest_of same) in
    (ap₂ (λ (z : X) (zs : List X). z ∷ zs) (ap (first_or x) same) rests.0, rests.1)

-- what a list is mapped to is cut where the list is
cut_map : {X Y : Type 0} (f : X → Y) (before rest : List Y) (xs : List X) → map f xs ≡ before ++ rest → (front : List X) × (back : List X) × (xs ≡ front ++ back) × (map f front ≡ before) × (map f back ≡ rest)
cut_map f [] rest xs is = ([], xs, refl, refl, is)
cut_map f (y ∷ before) rest [] is = absurd (cc)
cut_map {X} {Y} f (y ∷ before) rest (x ∷ xs) is =
    let more = cut_map f before rest xs (ap rest_of is) in
    (x ∷ more.0, more.1, ap (λ (zs : List X). x ∷ zs) more.2, ap₂ (λ (z : Y) (zs : List Y). z ∷ zs) (ap (first_or y) is) more.3, more.4)

-- ---- lines

-- lines that fit and have the same texts are the same
same_lines : (design : Parts) (stimulus : InputVectors) (workers others : ℕ) (these those : List JournalLine) → HasPlainNames design → IsSmall workers → IsSmall others
    → AllByRecursion (LineFits design stimulus workers) these → AllByRecursion (LineFits design stimulus others) those → map (line_text design) these ≡ map (line_text design) those → these ≡ those
same_lines design stimulus workers others [] [] names small few left right same = refl
same_lines design stimulus workers others [] (b ∷ those) names small few left right same = absurd (cc)
same_lines design stimulus workers others (a ∷ these) [] names small few left right same = absurd (cc)
same_lines design stimulus workers others (a ∷ these) (b ∷ those) names small few left right same =
    ap₂ (λ (l : JournalLine) (ls : List JournalLine). l ∷ ls) (one_line design stimulus workers others a b names small few left.0 right.0 (ap (first_or []) same))
    (same_lines design stimulus workers others these those names small few left.1 right.1 (ap rest_of same))

few_workers : (design : Parts) (stimulus : InputVectors) (journal : Journal) → AllByRecursion (LineFits design stimulus journal.workers) (lines_in journal) → IsSmall journal.workers
few_workers design stimulus journal fit = omega (arith, fit.0.1)

abbrev count_of : JournalLine → ℕ
count_of (line.Begins count) = count
count_of (line.Batch from to) = 0
count_of (line.Entry e) = 0

abbrev from_of : JournalLine → ℕ
from_of (line.Begins count) = 0
from_of (line.Batch from to) = from
from_of (line.Entry e) = 0

abbrev to_of : JournalLine → ℕ
to_of (line.Begins count) = 0
to_of (line.Batch from to) = to
to_of (line.Entry e) = 0

abbrev entry_of : Entry → JournalLine → Entry
entry_of e (line.Begins count) = e
entry_of e (line.Batch from to) = e
entry_of e (line.Entry f) = f

abbrev IsEntry : JournalLine → Type 0
IsEntry (line.Begins count) = ⊥
IsEntry (line.Batch from to) = ⊥
IsEntry (line.Entry e) = Unit {0}

abbrev IsLater : JournalLine → Type 0
IsLater (line.Begins count) = ⊥
IsLater (line.Batch from to) = Unit {0}
IsLater (line.Entry e) = Unit {0}

-- an entry is no batch's first line
no_entry : (batches : List Batch) (e : Entry) (ls : List JournalLine) → flat_map lines_of_batch batches ≡ line.Entry e ∷ ls → ⊥
no_entry [] e ls same = absurd (cc)
no_entry (batch ∷ batches) e ls same = subst IsEntry (sym (ap (first_or (line.Entry e)) same)) tt

-- ---- batches

entries_later : (entries : List Entry) → AllByRecursion IsLater (map line.Entry entries)
entries_later [] = tt
entries_later (e ∷ entries) = (tt, entries_later entries)

batches_later : (batches : List Batch) → AllByRecursion IsLater (flat_map lines_of_batch batches)
batches_later [] = tt
batches_later (batch ∷ batches) = (tt, all_both IsLater (map line.Entry batch.entries) (flat_map lines_of_batch batches) (entries_later batch.entries) (batches_later batches))

same_entries : (these those : List Entry) (before after : List Batch) → map line.Entry these ++ flat_map lines_of_batch before ≡ map line.Entry those ++ flat_map lines_of_batch after
    → (these ≡ those) × (flat_map lines_of_batch before ≡ flat_map lines_of_batch after)
same_entries [] [] before after same = (refl, same)
same_entries [] (b ∷ those) before after same = absurd (no_entry before b (map line.Entry those ++ flat_map lines_of_batch after) same)
same_entries (a ∷ these) [] before after same = absurd (no_entry after a (map line.Entry these ++ flat_map lines_of_batch before) (sym same))
same_entries (a ∷ these) (b ∷ those) before after same =
    let rests = same_entries these those before after (ap rest_of same) in
    (ap₂ (λ (e : Entry) (es : List Entry). e ∷ es) (ap (λ (ls : List JournalLine). entry_of a (first_or (line.Entry a) ls)) same) rests.0, rests.1)

same_batch : (a b : Batch) → a.from ≡ b.from → a.to ≡ b.to → a.line ≡ b.line → a.entries ≡ b.entries → a.lines ≡ b.lines → a ≡ b
same_batch a b from to number entries lines =
    ap₂ (λ (f t : ℕ). record { from = f; to = t; line = a.line; entries = a.entries; lines = a.lines }) from to
    ∙ ap₂ (λ (n : ℕ) (es : List Entry). record { from = b.from; to = b.to; line = n; entries = es; lines = a.lines }) number entries
    ∙ ap (λ (ls : List ℕ). record { from = b.from; to = b.to; line = b.line; entries = b.entries; lines = ls }) lines

same_batches : (these those : List Batch) → AllByRecursion IsNumbered these → AllByRecursion IsNumbered those → flat_map lines_of_batch these ≡ flat_map lines_of_batch those → flat_map numbers_of_batch these ≡ flat_map numbers_of_batch those → these ≡ those
same_batches [] [] left right lines numbers = refl
same_batches [] (b ∷ those) left right lines numbers = absurd (cc)
same_batches (a ∷ these) [] left right lines numbers = absurd (cc)
same_batches (a ∷ these) (b ∷ those) left right lines numbers =
    let entries = same_entries a.entries b.entries these those (ap rest_of lines) in
    let long : length a.lines ≡ length b.lines = left.0 ∙ ap length entries.0 ∙ sym right.0 in
    let places = same_fronts a.lines b.lines (flat_map numbers_of_batch these) (flat_map numbers_of_batch those) long (ap rest_of numbers) in
    ap₂ (λ (x : Batch) (xs : List Batch). x ∷ xs)
    (same_batch a b (ap (λ (ls : List JournalLine). from_of (first_or (line.Begins 0) ls)) lines) (ap (λ (ls : List JournalLine). to_of (first_or (line.Begins 0) ls)) lines) (ap (first_or 0) numbers) entries.0 places.0)
    (same_batches these those left.1 right.1 entries.1 places.1)

-- ---- journals

-- a text is one journal
pub one_journal : (design : Parts) (stimulus : InputVectors) (first_line : ℕ) (texts : List (List ℕ)) (a b : Journal) → HasPlainNames design → AreJournalLines design stimulus first_line texts a → AreJournalLines design stimulus first_line texts b → a ≡ b
one_journal design stimulus first_line texts a b names is also =
    let lines = same_lines design stimulus a.workers b.workers (lines_in a) (lines_in b) names (few_workers design stimulus a is.fit) (few_workers design stimulus b also.fit) is.fit also.fit (sym is.lines ∙ also.lines) in
    let numbers : journal_lines a ≡ journal_lines b = is.numbers ∙ sym also.numbers in
    let batches = same_batches a.batches b.batches is.counts also.counts (ap rest_of lines) (ap rest_of numbers) in
    ap₂ (λ (w n : ℕ). record { workers = w; line = n; batches = a.batches }) (ap (λ (ls : List JournalLine). count_of (first_or (line.Batch 0 0) ls)) lines) (ap (first_or 0) numbers)
    ∙ ap (λ (those : List Batch). record { workers = b.workers; line = b.line; batches = those }) batches

-- a line of a journal may follow the lines before it
follows : (design : Parts) (stimulus : InputVectors) (journal front : Journal) (l : JournalLine) (ls : List JournalLine) → lines_in journal ≡ lines_in front ++ l ∷ ls → LineFits design stimulus front.workers l → MayFollow design stimulus (Some front) l
follows design stimulus journal front (line.Begins count) ls is fits =
    (all_right IsLater (flat_map lines_of_batch front.batches) (line.Begins count ∷ ls) (subst (AllByRecursion IsLater) (ap rest_of is) (batches_later journal.batches))).0
follows design stimulus journal front (line.Batch from to) ls is fits = fits
follows design stimulus journal front (line.Entry e) ls is fits = (some front.batches (ap rest_of is), fits)
  where
    some : (batches : List Batch) → flat_map lines_of_batch journal.batches ≡ flat_map lines_of_batch batches ++ line.Entry e ∷ ls → 0 < length batches
    some [] same = absurd (no_entry journal.batches e ls same)
    some (batch ∷ batches) same = omega arith

next_fits : (design : Parts) (stimulus : InputVectors) (journal front : Journal) (l : JournalLine) (ls : List JournalLine) → lines_in journal ≡ lines_in front ++ l ∷ ls → AllByRecursion (LineFits design stimulus journal.workers) (lines_in journal) → LineFits design stimulus front.workers l
next_fits design stimulus journal front l ls is fit =
    let workers : journal.workers ≡ front.workers = ap (λ (all : List JournalLine). count_of (first_or (line.Batch 0 0) all)) is in
    subst (λ (w : ℕ). LineFits design stimulus w l) workers
    (all_right (LineFits design stimulus journal.workers) (lines_in front) (l ∷ ls) (subst (AllByRecursion (LineFits design stimulus journal.workers)) is fit)).0

-- the next line of a journal's text is some line that may follow
next_follows : (design : Parts) (stimulus : InputVectors) (first_line : ℕ) (before rest : List (List ℕ)) (journal : Journal) (front : Option Journal) → HasPlainNames design
    → map (line_text design) (lines_in journal) ≡ before ++ rest → AllByRecursion (LineFits design stimulus journal.workers) (lines_in journal) → AreFront design stimulus first_line before front → NoneFollows design stimulus front rest → ⊥
next_follows design stimulus first_line before [] journal None names cut fit are none = absurd (first (before) are cut)
  where
    first : (texts : List (List ℕ)) → texts ≡ [] → map (line_text design) (lines_in journal) ≡ texts ++ [] → ⊥
    first [] is same = absurd (cc)
    first (t ∷ texts) is same = absurd (cc)
next_follows design stimulus first_line before (text ∷ rest) journal None names cut fit are none =
    none names (line.Begins journal.workers) fit.0 (sym (ap (first_or []) (cut ∙ ap (λ (ts : List (List ℕ)). ts ++ text ∷ rest) are)))
next_follows design stimulus first_line before [] journal (Some front) names cut fit are none = absurd (cc)
next_follows design stimulus first_line before (text ∷ rest) journal (Some front) names cut fit are none =
    let parts = cut_map (line_text design) before (text ∷ rest) (lines_in journal) cut in
    let left = all_left (LineFits design stimulus journal.workers) parts.0 parts.1 (subst (AllByRecursion (LineFits design stimulus journal.workers)) parts.2 fit) in
    let same = same_lines design stimulus journal.workers front.workers parts.0 (lines_in front) names (few_workers design stimulus journal fit) (few_workers design stimulus front are.fit) left are.fit (parts.3 ∙ are.lines) in
    last parts.1 parts.4 (parts.2 ∙ ap (λ (ls : List JournalLine). ls ++ parts.1) same)
  where
    last : (back : List JournalLine) → map (line_text design) back ≡ text ∷ rest → lines_in journal ≡ lines_in front ++ back → ⊥
    last [] texts is = absurd (cc)
    last (l ∷ ls) texts is = none names l (follows design stimulus journal front l ls is (next_fits design stimulus journal front l ls is fit)) (sym (ap (first_or []) texts))

-- a journal has no malformed line
pub no_malformed : (design : Parts) (stimulus : InputVectors) (first_line : ℕ) (text : List ℕ) (journal : Journal) (fault : Fault) → HasPlainNames design → IsJournal design stimulus first_line text journal → IsFirstMalformed design stimulus first_line text fault → ⊥
no_malformed design stimulus first_line text journal fault names is first =
    next_follows design stimulus first_line first.before first.rest journal first.front names (sym is.lines ∙ first.lines) is.fit first.are first.none

-- ---- the first line of no form

-- of two fronts of a list they are the same, or one goes on after the other
data Fronts (xs r ys s : List (List ℕ)) : Type 0 where
  Same : xs ≡ ys → Fronts xs r ys s
  Longer : (y : List ℕ) (t : List (List ℕ)) → ys ≡ xs ++ y ∷ t → r ≡ y ∷ (t ++ s) → Fronts xs r ys s
  Shorter : (x : List ℕ) (t : List (List ℕ)) → xs ≡ ys ++ x ∷ t → s ≡ x ∷ (t ++ r) → Fronts xs r ys s

further : (x y : List ℕ) (xs r ys s : List (List ℕ)) → x ≡ y → Fronts xs r ys s → Fronts (x ∷ xs) r (y ∷ ys) s
further x y xs r ys s same (Same is) = Same (ap₂ (λ (z : List ℕ) (zs : List (List ℕ)). z ∷ zs) same is)
further x y xs r ys s same (Longer z t is rest) = Longer z t (ap₂ (λ (z : List ℕ) (zs : List (List ℕ)). z ∷ zs) (sym same) is) rest
further x y xs r ys s same (Shorter z t is rest) = Shorter z t (ap₂ (λ (z : List ℕ) (zs : List (List ℕ)). z ∷ zs) same is) rest

fronts : (xs r ys s : List (List ℕ)) → xs ++ r ≡ ys ++ s → Fronts xs r ys s
fronts [] r [] s is = Same refl
fronts [] r (y ∷ ys) s is = Longer y ys refl is
fronts (x ∷ xs) r [] s is = Shorter x xs refl (sym is)
fronts (x ∷ xs) r (y ∷ ys) s is = further x y xs r ys s (ap (first_or x) is) (fronts xs r ys s (ap rest_of is))

no_front : (xs : List (List ℕ)) (y : List ℕ) (t : List (List ℕ)) → xs ++ y ∷ t ≡ [] → ⊥
no_front [] y t is = absurd (cc)
no_front (x ∷ xs) y t is = absurd (cc)

-- a line with which none goes on is in no longer front
module _ (design : Parts) (stimulus : InputVectors) (first_line : ℕ) (names : HasPlainNames design) where
  stops : (before : List (List ℕ)) (y : List ℕ) (t rest : List (List ℕ)) (front longer : Option Journal) → AreFront design stimulus first_line before front → NoneFollows design stimulus front (y ∷ rest)
      → AreFront design stimulus first_line (before ++ y ∷ t) longer → ⊥
  stops before y t rest front None are none also = no_front before y t also
  stops before y t rest front (Some journal) are none also = next_follows design stimulus first_line before (y ∷ t) journal front names (sym also.lines) also.fit are none

  pub one_malformed : (text : List ℕ) (a b : Fault) → IsFirstMalformed design stimulus first_line text a → IsFirstMalformed design stimulus first_line text b → a ≡ b
  one_malformed text a b p q = by (fronts p.before p.rest q.before q.rest (sym p.lines ∙ q.lines))
    where
      by : Fronts p.before p.rest q.before q.rest → a ≡ b
      by (Same is) = p.fault_is ∙ ap (λ (before : List (List ℕ)). malformed_at (number_after first_line (length before))) is ∙ sym q.fault_is
      by (Longer y t is rest) =
          absurd (stops p.before y t (t ++ q.rest) p.front q.front p.are (subst (NoneFollows design stimulus p.front) rest p.none)
          (subst (λ (texts : List (List ℕ)). AreFront design stimulus first_line texts q.front) is q.are))
      by (Shorter y t is rest) =
          absurd (stops q.before y t (t ++ p.rest) q.front p.front q.are (subst (NoneFollows design stimulus q.front) rest q.none)
          (subst (λ (texts : List (List ℕ)). AreFront design stimulus first_line texts p.front) is p.are))
