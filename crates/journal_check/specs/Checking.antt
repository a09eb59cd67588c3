-- Which journals are good, and which fault is the first of a journal that isn't. A journal is a certificate of a run
-- (McConnell et al., Certifying algorithms, Computer Science Review 2011): its batches are those that the run has, and
-- the entries of each are a legal history (Herlihy and Wing, TOPLAS 1990) of the board on the registers that the
-- batches before it left. Nothing here says what the rules do: the board's answers do.
use Rattle.std.specs.Prelude.{◌≡◌, ◌≢◌, ◌⊎◌, ℕ, ◌+◌, ◌<◌, min, List, [], ◌∷◌, ◌++◌, length, slice_index_or}
use Rattle.std.specs.List.{AllByRecursion}
use Rattle.kw_base.specs.Fault.{fault_at}
use Rattle.kw_base.specs.declared.fault.Fault.{Fault}
use Rattle.kw_bits.specs.BitVector.{BitVector}
use Rattle.typed_core.specs.declared.design.Parts.{Parts}
use Rattle.one_rule.specs.Run.{first_values, last_registers}
use Rattle.one_rule.specs.Stimulus.{InputVectors, inputs_of}
use Rattle.attempt_log.specs.declared.entry.Entry.{Entry}
use Rattle.attempt_log.specs.declared.entry.Entry.TheVariants as entry
use Rattle.board_core.specs.Board.{Opening, step}
use Rattle.board_core.specs.History.{IsLegal, board_after, event_of, told_by, told_of}
use Rattle.board_core.specs.Laws.{IsTraced}
use Rattle.journal_check.specs.declared.journal.Batch.{Batch}
use Rattle.journal_check.specs.declared.journal.Journal.{Journal}

-- ---- what is asked of a journal before it is rechecked

-- an entry that submits is at a rule of the design, with the stimulus's inputs for its cycle
abbrev pub SubmitsRule : Parts → InputVectors → Entry → Type 0
SubmitsRule design stimulus (entry.Submit worker cycle rule inputs events outcome answer) =
    (rule < length design.rules) × (inputs ≡ inputs_of stimulus cycle)
SubmitsRule design stimulus (entry.Settle worker answer) = Unit {0}

-- its entries do so, and each has its line
pub record BatchFits (design : Parts) (stimulus : InputVectors) (batch : Batch) : Type 0 where
  pub entries : AllByRecursion (SubmitsRule design stimulus) batch.entries
  pub lines : length batch.lines ≡ length batch.entries

-- ---- good journals

-- after cycle `from` a batch is due of the next 256 cycles, or of those up to n; there is at least one
pub record IsDue (n from : ℕ) (batch : Batch) : Type 0 where
  pub begins : batch.from ≡ from
  pub ends : batch.to ≡ min (from + 256) n
  pub some : from < batch.to

-- the board of a batch on these registers; four cycles may be ahead, the current one included
abbrev pub opening_of : Parts → InputVectors → List BitVector → Batch → Opening
opening_of design stimulus regs batch =
    record { design = design; stimulus = stimulus; regs = regs; from = batch.from; to = batch.to; window = 4 }

-- after the history all cycles of the board are closed
abbrev pub Closes : Opening → List Entry → Type 0
Closes o entries = o.to < (board_after o entries).cycle

-- the registers in the last row of the board after the history
abbrev pub left_by : Opening → List Entry → List BitVector
left_by o entries = last_registers o.regs (board_after o entries).rows

-- the batch is due, and its entries are a legal history that closes all its cycles
pub record IsGoodBatch (n from : ℕ) (o : Opening) (batch : Batch) : Type 0 where
  pub due : IsDue n from batch
  pub legal : IsLegal o batch.entries
  pub closes : Closes o batch.entries

-- after cycle `from`, which left these registers, the batches are good, one on what the other leaves, up to cycle n
abbrev pub AreGood : Parts → InputVectors → ℕ → ℕ → List BitVector → List Batch → Type 0
AreGood design stimulus n from regs [] = from ≡ n
AreGood design stimulus n from regs (batch ∷ batches) =
    let o = opening_of design stimulus regs batch in
    IsGoodBatch n from o batch × AreGood design stimulus n batch.to (left_by o batch.entries) batches

-- a good journal for n cycles
abbrev pub IsGood : Parts → InputVectors → ℕ → Journal → Type 0
IsGood design stimulus n journal = AreGood design stimulus n 0 (first_values design) journal.batches

-- ---- the first fault

-- the fault of a line
abbrev pub at_line : ℕ → ℕ → Fault
at_line number line = fault_at number (record { line = line; column = 1 })

-- What is wrong with an entry after a history, by the number of the fault: its attempt isn't a trace of its rule, or
-- it is one and the board answers otherwise.
abbrev pub IsWrongEntry : Opening → List Entry → Entry → ℕ → Type 0
IsWrongEntry o log e number =
    ((number ≡ 81) × (IsTraced o e → ⊥))
    ⊎ ((number ≡ 82) × IsTraced o e × (told_by e ≢ told_of (step o (board_after o log) (event_of o.design e)).answer))

-- the fault of the first wrong entry: those before it are a legal history
pub record IsFirstWrong (o : Opening) (batch : Batch) (fault : Fault) : Type 0 where
  pub before : List Entry
  pub entry : Entry
  pub rest : List Entry
  pub entries : batch.entries ≡ before ++ entry ∷ rest
  pub legal : IsLegal o before
  pub number : ℕ
  pub wrong : IsWrongEntry o before entry number
  pub fault_is : fault ≡ at_line number (slice_index_or batch.lines (length before) 0)

-- The fault of the entries of a batch: that of the first wrong one, or else that they leave a cycle open, which is a
-- fault of the batch's own line.
abbrev pub IsFaultOfEntries : Opening → Batch → Fault → Type 0
IsFaultOfEntries o batch fault =
    IsFirstWrong o batch fault
    ⊎ (IsLegal o batch.entries × (Closes o batch.entries → ⊥) × (fault ≡ at_line 83 batch.line))

-- the first fault of a batch: that it isn't due, or else that of its entries
abbrev pub IsFaultOf : ℕ → ℕ → Opening → Batch → Fault → Type 0
IsFaultOf n from o batch fault =
    ((IsDue n from batch → ⊥) × (fault ≡ at_line 83 batch.line))
    ⊎ (IsDue n from batch × IsFaultOfEntries o batch fault)

-- the fault of the first batch that isn't good; where all are, that of the journal's own line, as they end before n
abbrev pub IsFaultFrom : Parts → InputVectors → ℕ → ℕ → ℕ → List BitVector → List Batch → Fault → Type 0
IsFaultFrom design stimulus n line from regs [] fault = (from ≢ n) × (fault ≡ at_line 83 line)
IsFaultFrom design stimulus n line from regs (batch ∷ batches) fault =
    let o = opening_of design stimulus regs batch in
    IsFaultOf n from o batch fault
    ⊎ (IsGoodBatch n from o batch × IsFaultFrom design stimulus n line batch.to (left_by o batch.entries) batches fault)

-- the first fault of a journal that isn't good for n cycles
abbrev pub IsFirstJournalFault : Parts → InputVectors → ℕ → Journal → Fault → Type 0
IsFirstJournalFault design stimulus n journal fault =
    IsFaultFrom design stimulus n journal.line 0 (first_values design) journal.batches fault
