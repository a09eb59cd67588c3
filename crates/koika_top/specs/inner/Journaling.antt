-- What is written of a journal batch by batch. This serves private functions alone.
use Rattle.std.specs.Prelude.{◌≡◌, ◌⊎◌, ℕ, List, [], Result, Ok, Err, IfOk}
use Rattle.kw_bits.specs.BitVector.{BitVector}
use Rattle.typed_core.specs.declared.design.Parts.{Parts}
use Rattle.one_rule.specs.Stimulus.{InputVectors}
use Rattle.board_core.specs.History.{IsLegal}
use Rattle.journal_check.specs.Checking.{Closes, left_by, opening_of}
use Rattle.journal_check.specs.Journals.{lines_of_batch}
use Rattle.journal_check.specs.Printing.{journal_text, text_of}
use Rattle.journal_check.specs.declared.journal.Batch.{Batch}
use Rattle.journal_check.specs.declared.journal.Journal.{Journal}
use Rattle.koika_top.specs.Journal.{IsJournalOf, IsMadeBy}
use Rattle.front_end.specs.Streams.{Stream}
use Rattle.front_end.specs.Told.{Told}
use Rattle.front_end.specs.declared.untold.Untold.{Untold}
use Rattle.front_end.specs.declared.untold.Untold.TheVariants as untold

-- the batch is of these cycles, and its entries are by these workers and a legal history that closes them all
pub record IsBatch (core : Parts) (stimulus : InputVectors) (workers : ℕ) (regs : List BitVector) (from to : ℕ) (batch : Batch) : Type 0 where
  pub begins : batch.from ≡ from
  pub ends : batch.to ≡ to
  pub legal : IsLegal (opening_of core stimulus regs batch) batch.entries
  pub closes : Closes (opening_of core stimulus regs batch) batch.entries
  pub made : IsMadeBy core stimulus workers batch

-- whether the call wrote its text to the end
abbrev pub written : {X : Type 0} → Result X Untold → Result (Unit {0}) Untold
written (Ok x) = Ok tt
written (Err why) = Err why

-- The lines of such a batch were written, or their first bytes, and the registers that the batch leaves were returned;
-- or nothing was written, since memory ran out.
abbrev pub WritesBatch : Parts → InputVectors → ℕ → List BitVector → ℕ → ℕ → Stream → Result (List BitVector) Untold → Type 0
WritesBatch core stimulus workers regs from to sink result =
    ((batch : Batch) × IsBatch core stimulus workers regs from to batch × Told (text_of core (lines_of_batch batch)) sink (written result)
    × IfOk result (λ left. left ≡ left_by (opening_of core stimulus regs batch) batch.entries))
    ⊎ ((result ≡ Err untold.NoMemory) × Told [] sink (written result))

-- the text of a journal was written, or its first bytes
abbrev pub WritesJournal : Parts → InputVectors → ℕ → ℕ → Stream → Result (Unit {0}) Untold → Type 0
WritesJournal core stimulus cycles workers sink result =
    (journal : Journal) × IsJournalOf core stimulus cycles workers journal × Told (journal_text core journal) sink result
