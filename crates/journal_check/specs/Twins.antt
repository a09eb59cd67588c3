-- Twins: designs that differ in their rules' bodies alone, and whose rules have the same traces on a stimulus. Whatever
-- is said of a journal is said of it with either.
use Rattle.std.specs.Prelude.{◌≡◌, ◌↔◌, ℕ, List}
use Rattle.kw_base.specs.declared.fault.Fault.{Fault}
use Rattle.typed_core.specs.declared.design.Parts.{Parts}
use Rattle.typed_core.specs.declared.outcome.Alone.{Alone}
use Rattle.one_rule.specs.Stimulus.{InputVectors, inputs_of}
use Rattle.attempt_log.specs.Trace.{IsTrace}
use Rattle.journal_check.specs.Checking.{IsFirstJournalFault, IsGood}
use Rattle.journal_check.specs.Reading.{IsFirstMalformed, IsJournal}
use Rattle.journal_check.specs.Tokens.{rule_names}
use Rattle.journal_check.specs.declared.journal.Journal.{Journal}

pub record AreTwins (stimulus : InputVectors) (a b : Parts) : Type 0 where
  pub regs : a.regs ≡ b.regs
  pub inputs : a.inputs ≡ b.inputs
  pub tables : a.tables ≡ b.tables
  pub hosts : a.hosts ≡ b.hosts
  pub names : rule_names a ≡ rule_names b
  pub nodes : a.nodes ≡ b.nodes
  pub traces : (rule cycle : ℕ) (run : Alone) → IsTrace a rule (inputs_of stimulus cycle) run ↔ IsTrace b rule (inputs_of stimulus cycle) run

-- a text is a journal with both
abbrev pub TwinsReadAlike : Type 0
TwinsReadAlike = (stimulus : InputVectors) (a b : Parts) (first_line : ℕ) (text : List ℕ) (journal : Journal) → AreTwins stimulus a b
    → IsJournal a stimulus first_line text journal → IsJournal b stimulus first_line text journal

-- or has the same first line of no form
abbrev pub TwinsStopAlike : Type 0
TwinsStopAlike = (stimulus : InputVectors) (a b : Parts) (first_line : ℕ) (text : List ℕ) (fault : Fault) → AreTwins stimulus a b
    → IsFirstMalformed a stimulus first_line text fault → IsFirstMalformed b stimulus first_line text fault

-- a journal is good with both
abbrev pub TwinsPassAlike : Type 0
TwinsPassAlike = (stimulus : InputVectors) (a b : Parts) (n : ℕ) (journal : Journal) → AreTwins stimulus a b → IsGood a stimulus n journal → IsGood b stimulus n journal

-- or has the same first fault
abbrev pub TwinsFailAlike : Type 0
TwinsFailAlike = (stimulus : InputVectors) (a b : Parts) (n : ℕ) (journal : Journal) (fault : Fault) → AreTwins stimulus a b → IsFirstJournalFault a stimulus n journal fault → IsFirstJournalFault b stimulus n journal fault
