-- A journal that was read fits as a recheck asks for.
use Rattle.std.proofs.Common.{ℕ, ◌<◌, List, [], ◌∷◌, ◌++◌, length, map, subst}
use Rattle.std.specs.List.{AllByRecursion, flat_map}
use Rattle.std.specs.Str.{bytes_eq}
use Rattle.std.proofs.lemmas.List.{length-map}
use Rattle.std.proofs.lemmas.List.Quantifiers.{position-Some}
use Rattle.typed_core.specs.declared.design.Parts.{Parts}
use Rattle.typed_core.specs.declared.design.Rule.{Rule}
use Rattle.one_rule.specs.Stimulus.{InputVectors}
use Rattle.attempt_log.specs.declared.entry.Entry.{Entry}
use Rattle.attempt_log.specs.declared.entry.Entry.TheVariants as entry
use Rattle.journal_check.specs.Checking.{BatchFits, SubmitsRule}
use Rattle.journal_check.specs.CheckingLaws.{ReadJournalsFit}
use Rattle.journal_check.specs.Fitting.{EntryFits, IsRule, LineFits}
use Rattle.journal_check.specs.Journals.{lines_of_batch}
use Rattle.journal_check.specs.Printing.{rule_name}
use Rattle.journal_check.specs.Reading.{IsNumbered}
use Rattle.journal_check.specs.Tokens.{rule_names}
use Rattle.journal_check.specs.declared.journal.Batch.{Batch}
use Rattle.journal_check.specs.declared.line.JournalLine.{JournalLine}
use Rattle.journal_check.specs.declared.line.JournalLine.TheVariants as line

-- the design has a rule of a name that was found
rule_below : (design : Parts) (rule : ℕ) → IsRule design rule → rule < length design.rules
rule_below design rule is =
    let found = position-Some (bytes_eq (rule_name design rule)) (rule_names design) rule [] is in
    subst (λ (n : ℕ). rule < n) (length-map design.rules (λ (r : Rule). r.name)) found.0

module _ (design : Parts) (stimulus : InputVectors) (workers : ℕ) where
  entry_fits : (e : Entry) → EntryFits design stimulus workers e → SubmitsRule design stimulus e
  entry_fits (entry.Submit worker cycle rule inputs events outcome answer) fit = (rule_below design rule fit.3, fit.4)
  entry_fits (entry.Settle worker answer) fit = tt

  entries_fit : (entries : List Entry) → AllByRecursion (LineFits design stimulus workers) (map line.Entry entries) → AllByRecursion (SubmitsRule design stimulus) entries
  entries_fit [] all = tt
  entries_fit (e ∷ entries) all = (entry_fits e all.0, entries_fit entries all.1)

  front : (xs ys : List JournalLine) → AllByRecursion (LineFits design stimulus workers) (xs ++ ys) → AllByRecursion (LineFits design stimulus workers) xs
  front [] ys all = tt
  front (x ∷ xs) ys all = (all.0, front xs ys all.1)

  back : (xs ys : List JournalLine) → AllByRecursion (LineFits design stimulus workers) (xs ++ ys) → AllByRecursion (LineFits design stimulus workers) ys
  back [] ys all = all
  back (x ∷ xs) ys all = back xs ys all.1

  batches_fit : (batches : List Batch) → AllByRecursion (LineFits design stimulus workers) (flat_map lines_of_batch batches) → AllByRecursion IsNumbered batches → AllByRecursion (BatchFits design stimulus) batches
  batches_fit [] all counts = tt
  batches_fit (batch ∷ batches) all counts = (
    record {
      entries = entries_fit batch.entries (front (lines_of_batch batch) (flat_map lines_of_batch batches) all).1;
      lines = counts.0;
    },
    batches_fit batches (back (lines_of_batch batch) (flat_map lines_of_batch batches) all) counts.1,
  )

pub read_journals_fit : ReadJournalsFit
read_journals_fit design stimulus first_line text journal is =
    batches_fit design stimulus journal.workers journal.batches is.fit.1 is.counts
