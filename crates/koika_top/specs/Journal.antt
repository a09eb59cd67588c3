-- What `sim --journal` answers to a source: a journal of the run of the source's design, as a linear history of each
-- batch's board (Herlihy and Wing, TOPLAS 1990). Which of the legal histories it has is left open.
use Rattle.std.specs.Prelude.{◌≡◌, ℕ, ◌+◌, ◌*◌, ◌≤◌, ◌⊎◌, Bool, true, false, List, [], nat_lt}
use Rattle.std.specs.List.{AllByRecursion}
use Rattle.kw_base.specs.declared.fault.Fault.{Fault}
use Rattle.kw_bits.specs.declared.host.HostSpec.{HostSpec}
use Rattle.typed_core.specs.declared.design.Parts.{Parts}
use Rattle.one_rule.specs.Stimulus.{InputVectors}
use Rattle.attempt_log.specs.Entries.{worker_of}
use Rattle.attempt_log.specs.declared.entry.Entry.{Entry}
use Rattle.board_lock.specs.Histories.{Each, InRun}
use Rattle.journal_check.specs.Checking.{IsGood, opening_of}
use Rattle.journal_check.specs.Printing.{journal_text}
use Rattle.journal_check.specs.declared.journal.Batch.{Batch}
use Rattle.journal_check.specs.declared.journal.Journal.{Journal}
use Rattle.koika_check.specs.Counts.{counts_of}
use Rattle.koika_check.specs.declared.checked.Checked.{Checked}
use Rattle.koika_lower.specs.Lowering.{IsLowered}
use Rattle.front_end.specs.Lengths.{HasNoRun, is_too_long_for}
use Rattle.front_end.specs.Sources.{IsTooLong, Spells, fault_of_source}
use Rattle.front_end.specs.declared.answer.Answer.{Answer}
use Rattle.front_end.specs.declared.answer.Answer.TheVariants.{Usage, Refused, Written}

-- whether that many cycles of the design are too many for a journal: more than 16,384 times one more than its weight
abbrev pub is_too_heavy : ℕ → Checked → Bool
is_too_heavy cycles d = nat_lt 16384 (cycles * ((counts_of d).weight + 1))

-- the source spells a design and a stimulus, and that many cycles have a journal
pub record HasJournal (hosts : List HostSpec) (cycles : ℕ) (source : List ℕ) (design : Checked) (stimulus : InputVectors) : Type 0 where
  pub spelled : Spells hosts source design stimulus
  pub within : is_too_long_for cycles design ≡ false
  pub light : is_too_heavy cycles design ≡ false

-- its entries are by workers with at most this number, and their attempts for cycles of the batch
pub record IsMadeBy (core : Parts) (stimulus : InputVectors) (worker : ℕ) (batch : Batch) : Type 0 where
  pub by : Each (λ (e : Entry). worker_of e ≤ worker) batch.entries
  pub in_run : Each (InRun (opening_of core stimulus [] batch)) batch.entries

-- The journal is one of this many cycles and workers: it is good, and each entry is by a worker, or by whoever finishes
-- the batch and has the number after theirs.
pub record IsJournalOf (core : Parts) (stimulus : InputVectors) (cycles workers : ℕ) (journal : Journal) : Type 0 where
  pub workers_are : journal.workers ≡ workers
  pub good : IsGood core stimulus cycles journal
  pub made : AllByRecursion (IsMadeBy core stimulus workers) journal.batches

-- the text is that of a journal of the source's design, lowered
pub record ShowsJournal (hosts : List HostSpec) (cycles workers : ℕ) (source text : List ℕ) : Type 0 where
  pub design : Checked
  pub stimulus : InputVectors
  pub spelled : HasJournal hosts cycles source design stimulus
  pub core : Parts
  pub lowered : IsLowered design core
  pub journal : Journal
  pub is : IsJournalOf core stimulus cycles workers journal
  pub told : text ≡ journal_text core journal

-- 49 where the cycles are too many for a journal, and not too many for a run
abbrev pub RunsTooHeavy : List HostSpec → ℕ → List ℕ → Fault → Type 0
RunsTooHeavy hosts cycles source fault =
    (fault ≡ fault_of_source 49)
    × ((design : Checked) × (stimulus : InputVectors) × Spells hosts source design stimulus × (is_too_long_for cycles design ≡ false) × (is_too_heavy cycles design ≡ true))

-- the source has no journal of that many cycles, and this is why
abbrev pub HasNoJournal : List HostSpec → ℕ → List ℕ → Fault → Type 0
HasNoJournal hosts cycles source fault = HasNoRun hosts cycles source fault ⊎ RunsTooHeavy hosts cycles source fault

-- the answer of `sim --journal`
abbrev pub AnswersJournal : List HostSpec → ℕ → ℕ → List ℕ → Answer → Type 0
AnswersJournal hosts cycles workers source Usage = ⊥
AnswersJournal hosts cycles workers source (Refused fault) = IsTooLong source fault ⊎ HasNoJournal hosts cycles source fault
AnswersJournal hosts cycles workers source (Written text) = ShowsJournal hosts cycles workers source text
