-- What reading a text gives: the journal that is printed so and fits the design, or the fault of the first line with
-- which no such journal goes on. The lines are those of a source, numbered from a first one on. That none goes on is
-- said of designs without a space in a name, as all are that were read from a text.
use Rattle.std.specs.Prelude.{◌≡◌, ℕ, ◌+◌, ◌<◌, Bool, IsTrue, nat_lt, not, List, [], ◌∷◌, ◌++◌, length, map, Option, None, Some}
use Rattle.std.specs.List.{AllByRecursion, list_all}
use Rattle.kw_base.specs.Fault.{fault_at}
use Rattle.kw_base.specs.Place.{capped}
use Rattle.kw_base.specs.declared.fault.Fault.{Fault}
use Rattle.typed_core.specs.declared.design.Parts.{Parts}
use Rattle.one_rule.specs.Stimulus.{InputVectors}
use Rattle.journal_check.specs.Fitting.{EntryFits, LineFits}
use Rattle.journal_check.specs.Journals.{lines_in, journal_lines}
use Rattle.journal_check.specs.Printing.{line_text}
use Rattle.journal_check.specs.Tokens.{register_names, rule_names}
use Rattle.journal_check.specs.declared.journal.Batch.{Batch}
use Rattle.journal_check.specs.declared.journal.Journal.{Journal}
use Rattle.journal_check.specs.declared.line.JournalLine.{JournalLine}
use Rattle.journal_check.specs.declared.line.JournalLine.TheVariants as line
use Rattle.kw_base.specs.Texts.{is_space, lines_of}

-- the number of the line that comes this many lines after the first one
abbrev pub number_after : ℕ → ℕ → ℕ
number_after first_line count = capped (first_line + count)

-- the numbers of this many lines
abbrev pub numbers_from : ℕ → List (List ℕ) → List ℕ
numbers_from number [] = []
numbers_from number (text ∷ texts) = number ∷ numbers_from (capped (number + 1)) texts

-- as many lines as entries
abbrev pub IsNumbered : Batch → Type 0
IsNumbered batch = length batch.lines ≡ length batch.entries

-- a batch whose entries fit, each with its line
pub record HasFittingEntries (design : Parts) (stimulus : InputVectors) (workers : ℕ) (batch : Batch) : Type 0 where
  pub entries : AllByRecursion (EntryFits design stimulus workers) batch.entries
  pub lines : IsNumbered batch

-- the lines, numbered from this one on, are those of the journal
pub record AreJournalLines (design : Parts) (stimulus : InputVectors) (first_line : ℕ) (texts : List (List ℕ)) (journal : Journal) : Type 0 where
  pub lines : texts ≡ map (line_text design) (lines_in journal)
  pub fit : AllByRecursion (LineFits design stimulus journal.workers) (lines_in journal)
  pub numbers : journal_lines journal ≡ numbers_from first_line texts
  pub counts : AllByRecursion IsNumbered journal.batches

-- the text is a journal
abbrev pub IsJournal : Parts → InputVectors → ℕ → List ℕ → Journal → Type 0
IsJournal design stimulus first_line text journal = AreJournalLines design stimulus first_line (lines_of text) journal

-- the lines before a fault: none, or those of a journal
abbrev pub AreFront : Parts → InputVectors → ℕ → List (List ℕ) → Option Journal → Type 0
AreFront design stimulus first_line texts None = texts ≡ []
AreFront design stimulus first_line texts (Some journal) = AreJournalLines design stimulus first_line texts journal

-- which line may come next: first the one for the workers, and entries only after a batch has begun
abbrev pub MayFollow : Parts → InputVectors → Option Journal → JournalLine → Type 0
MayFollow design stimulus None (line.Begins count) = LineFits design stimulus count (line.Begins count)
MayFollow design stimulus None (line.Batch from to) = ⊥
MayFollow design stimulus None (line.Entry e) = ⊥
MayFollow design stimulus (Some journal) (line.Begins count) = ⊥
MayFollow design stimulus (Some journal) (line.Batch from to) = LineFits design stimulus journal.workers (line.Batch from to)
MayFollow design stimulus (Some journal) (line.Entry e) = (0 < length journal.batches) × LineFits design stimulus journal.workers (line.Entry e)

-- no name has a space
abbrev pub IsPlain : List ℕ → Type 0
IsPlain name = IsTrue (list_all (λ b. not (is_space b)) name)

-- no name has a space
pub record HasPlainNames (design : Parts) : Type 0 where
  pub registers : AllByRecursion IsPlain (register_names design)
  pub rules : AllByRecursion IsPlain (rule_names design)

-- no line goes on that is printed so, where no name has a space; nor does a text without lines begin
abbrev pub NoneFollows : Parts → InputVectors → Option Journal → List (List ℕ) → Type 0
NoneFollows design stimulus front [] = front ≡ None
NoneFollows design stimulus front (text ∷ texts) = HasPlainNames design → (l : JournalLine) → MayFollow design stimulus front l → text ≡ line_text design l → ⊥

-- the fault of the line of a number
abbrev pub malformed_at : ℕ → Fault
malformed_at number = fault_at 80 (record { line = number; column = 1 })

-- the fault of the first line that is of no form
pub record IsFirstMalformed (design : Parts) (stimulus : InputVectors) (first_line : ℕ) (text : List ℕ) (fault : Fault) : Type 0 where
  pub before : List (List ℕ)
  pub rest : List (List ℕ)
  pub front : Option Journal
  pub lines : lines_of text ≡ before ++ rest
  pub are : AreFront design stimulus first_line before front
  pub none : NoneFollows design stimulus front rest
  pub fault_is : fault ≡ malformed_at (number_after first_line (length before))

-- no name has a byte below the space, as a line feed or a carriage return
abbrev pub is_shown : ℕ → Bool
is_shown b = nat_lt 31 b

abbrev pub IsShown : List ℕ → Type 0
IsShown name = IsTrue (list_all is_shown name)

pub record HasShownNames (design : Parts) : Type 0 where
  pub registers : AllByRecursion IsShown (register_names design)
  pub rules : AllByRecursion IsShown (rule_names design)
