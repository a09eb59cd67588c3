-- Why a line is refused, and how a line adds to a journal that is read line by line.
use Rattle.std.specs.Prelude.{◌≡◌, ℕ, List, [], ◌∷◌, ◌++◌, length}
use Rattle.std.specs.List.{AllByRecursion}
use Rattle.kw_base.specs.declared.fault.Fault.{Fault}
use Rattle.kw_base.specs.declared.fault.Refusal.{Refusal}
use Rattle.kw_base.specs.declared.fault.Refusal.TheVariants as refusals
use Rattle.kw_base.specs.Texts.{lines_of}
use Rattle.typed_core.specs.declared.design.Parts.{Parts}
use Rattle.one_rule.specs.Stimulus.{InputVectors}
use Rattle.journal_check.specs.Journals.{lines_in, journal_lines}
use Rattle.journal_check.specs.Printing.{line_text}
use Rattle.journal_check.specs.Reading.{AreJournalLines, HasPlainNames, IsNumbered, malformed_at, number_after}
use Rattle.kw_bits.specs.declared.failure.Failure.{Failure}
use Rattle.journal_check.specs.declared.token.Malformed.{Malformed}
use Rattle.kw_bits.specs.declared.failure.Failure.TheVariants as failures
use Rattle.journal_check.specs.declared.journal.Journal.{Journal}
use Rattle.journal_check.specs.declared.line.JournalLine.{JournalLine}

-- no line of these is printed so
abbrev pub NoneIs : Parts → (JournalLine → Type 0) → List ℕ → Type 0
NoneIs design P text = (l : JournalLine) → P l → text ≡ line_text design l → ⊥

-- the fault is that of the line of a number, and no line of these is printed so
abbrev pub IsMalformed : Parts → (JournalLine → Type 0) → List ℕ → ℕ → Fault → Type 0
IsMalformed design P text number fault = (fault ≡ malformed_at number) × (HasPlainNames design → NoneIs design P text)

-- a line of a number is the last of the new journal, whose other lines are those of the old one
pub record Adds (old new : Journal) (number : ℕ) (l : JournalLine) : Type 0 where
  pub workers : new.workers ≡ old.workers
  pub lines : lines_in new ≡ lines_in old ++ l ∷ []
  pub numbers : journal_lines new ≡ journal_lines old ++ number ∷ []
  pub counts : AllByRecursion IsNumbered old.batches → AllByRecursion IsNumbered new.batches

-- so far the lines of a text up to the rest are those of the journal, and the next line has this number
pub record HasRead (design : Parts) (stimulus : InputVectors) (first_line : ℕ) (text rest : List ℕ) (number : ℕ) (journal : Journal) : Type 0 where
  pub before : List (List ℕ)
  pub lines : lines_of text ≡ before ++ lines_of rest
  pub are : AreJournalLines design stimulus first_line before journal
  pub number_is : number ≡ number_after first_line (length before)

-- the refusal of the line of a number
abbrev pub refusal_of : Failure Malformed → ℕ → Refusal
refusal_of (failures.Why malformed) line = refusals.Fault (malformed_at line)
refusal_of failures.NoMemory line = refusals.NoMemory
