-- What was read fits, batch by batch.
use Rattle.std.proofs.Common.{◌≡◌, ℕ, ◌<◌, List, [], ◌∷◌, ◌++◌, length, map, arith}
use Rattle.std.specs.List.{AllByRecursion, flat_map}
use Rattle.std.specs.Str.{bytes_eq}
use Rattle.std.proofs.lemmas.List.{length-map}
use Rattle.std.proofs.lemmas.List.Quantifiers.{position-Some}
use Rattle.typed_core.specs.declared.design.Parts.{Parts}
use Rattle.typed_core.specs.declared.design.Rule.{Rule}
use Rattle.one_rule.specs.Stimulus.{InputVectors}
use Rattle.attempt_log.specs.declared.entry.Entry.{Entry}
use Rattle.journal_check.specs.Fitting.{IsRule, LineFits}
use Rattle.journal_check.specs.Journals.{lines_of_batch}
use Rattle.journal_check.specs.Printing.{rule_name}
use Rattle.journal_check.specs.Reading.{HasFittingEntries, IsJournal, IsNumbered}
use Rattle.journal_check.specs.Tokens.{rule_names}
use Rattle.journal_check.specs.declared.journal.Batch.{Batch}
use Rattle.journal_check.specs.declared.journal.Journal.{Journal}
use Rattle.journal_check.specs.declared.line.JournalLine.{JournalLine}
use Rattle.journal_check.specs.declared.line.JournalLine.TheVariants as line

-- a rule that a line names is one of the design
pub rule_within : (design : Parts) (rule : ℕ) → IsRule design rule → rule < length design.rules
rule_within design rule named =
    let count : length (rule_names design) ≡ length design.rules = length-map design.rules (λ (r : Rule). r.name) in
    omega (arith, count, (position-Some (bytes_eq (rule_name design rule)) (rule_names design) rule [] named).0)

-- the entries at the front of lines that fit
entries_left : (P : JournalLine → Type 0) (entries : List Entry) (rest : List JournalLine) → AllByRecursion P (map line.Entry entries ++ rest) → AllByRecursion (λ (e : Entry). P (line.Entry e)) entries × AllByRecursion P rest
entries_left P [] rest all = (tt, all)
entries_left P (e ∷ entries) rest all =
    let more = entries_left P entries rest all.1 in
    ((all.0, more.0), more.1)

batches_fit : (design : Parts) (stimulus : InputVectors) (workers : ℕ) (batches : List Batch) → AllByRecursion (LineFits design stimulus workers) (flat_map lines_of_batch batches) → AllByRecursion IsNumbered batches
    → AllByRecursion (HasFittingEntries design stimulus workers) batches
batches_fit design stimulus workers [] fit counts = tt
batches_fit design stimulus workers (batch ∷ batches) fit counts =
    let parts = entries_left (LineFits design stimulus workers) batch.entries (flat_map lines_of_batch batches) fit.1 in
    (record { entries = parts.0; lines = counts.0 }, batches_fit design stimulus workers batches parts.1 counts.1)

pub journal_fits : (design : Parts) (stimulus : InputVectors) (first_line : ℕ) (text : List ℕ) (journal : Journal) → IsJournal design stimulus first_line text journal
    → AllByRecursion (HasFittingEntries design stimulus journal.workers) journal.batches
journal_fits design stimulus first_line text journal is = batches_fit design stimulus journal.workers journal.batches is.fit.1 is.counts
