-- A journal as a list of lines: one for the workers, and for each batch one for its cycles and one for each of its
-- entries.
use Rattle.std.specs.Prelude.{ℕ, List, ◌∷◌, map}
use Rattle.std.specs.List.{flat_map}
use Rattle.journal_check.specs.declared.journal.Batch.{Batch}
use Rattle.journal_check.specs.declared.journal.Journal.{Journal}
use Rattle.journal_check.specs.declared.line.JournalLine.{JournalLine}
use Rattle.journal_check.specs.declared.line.JournalLine.TheVariants as line

-- the lines of a batch: where it is in the run, and its entries
abbrev pub lines_of_batch : Batch → List JournalLine
lines_of_batch batch = line.Batch batch.from batch.to ∷ map line.Entry batch.entries

-- the lines of a journal
abbrev pub lines_in : Journal → List JournalLine
lines_in journal = line.Begins journal.workers ∷ flat_map lines_of_batch journal.batches

-- the numbers that these lines have in a source
abbrev pub numbers_of_batch : Batch → List ℕ
numbers_of_batch batch = batch.line ∷ batch.lines

-- the numbers of a journal's lines in its source
abbrev pub journal_lines : Journal → List ℕ
journal_lines journal = journal.line ∷ flat_map numbers_of_batch journal.batches
