-- What holds of good journals and first faults: a journal has one answer, and one that was read may be rechecked.
use Rattle.std.specs.Prelude.{◌≡◌, ℕ, List}
use Rattle.std.specs.List.{AllByRecursion}
use Rattle.kw_base.specs.declared.fault.Fault.{Fault}
use Rattle.typed_core.specs.declared.design.Parts.{Parts}
use Rattle.one_rule.specs.Stimulus.{InputVectors}
use Rattle.journal_check.specs.Checking.{BatchFits, IsFirstJournalFault, IsGood}
use Rattle.journal_check.specs.Reading.{IsJournal}
use Rattle.journal_check.specs.declared.journal.Journal.{Journal}

-- a good journal has no fault
abbrev pub NeverGoodAndFaulty : Type 0
NeverGoodAndFaulty = (design : Parts) (stimulus : InputVectors) (n : ℕ) (journal : Journal) (fault : Fault) → IsGood design stimulus n journal → IsFirstJournalFault design stimulus n journal fault → ⊥

-- no journal has two first faults
abbrev pub OneFirstFault : Type 0
OneFirstFault = (design : Parts) (stimulus : InputVectors) (n : ℕ) (journal : Journal) (a b : Fault) → IsFirstJournalFault design stimulus n journal a → IsFirstJournalFault design stimulus n journal b → a ≡ b

-- a journal that was read from a text fits as a recheck asks for
abbrev pub ReadJournalsFit : Type 0
ReadJournalsFit = (design : Parts) (stimulus : InputVectors) (first_line : ℕ) (text : List ℕ) (journal : Journal) → IsJournal design stimulus first_line text journal → AllByRecursion (BatchFits design stimulus) journal.batches
