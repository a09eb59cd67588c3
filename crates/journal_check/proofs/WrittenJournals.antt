-- The lines of a good journal of workers fit its design, and are read back as the same journal with their numbers.
use Rattle.std.proofs.Common.{◌≡◌, ◌+◌, ◌<◌, ◌≤◌, ℕ, List, [], ◌∷◌, ◌++◌, length, map, refl, sym, ap, subst, ◌∙◌, arith}
use Rattle.std.specs.List.{AllByRecursion, flat_map}
use Rattle.std.proofs.lemmas.List.{length-map, map-append}
use Rattle.kw_base.specs.Place.{capped}
use Rattle.kw_bits.specs.BitVector.{BitVector}
use Rattle.typed_core.specs.Valid.{AreNodes}
use Rattle.typed_core.specs.Widths.{HaveWidths, register_widths}
use Rattle.typed_core.specs.declared.design.Parts.{Parts}
use Rattle.one_rule.specs.Run.{first_values}
use Rattle.one_rule.specs.Stimulus.{InputVectors}
use Rattle.attempt_log.specs.declared.entry.Entry.{Entry}
use Rattle.attempt_log.specs.declared.entry.Entry.TheVariants as entry
use Rattle.board_core.specs.declared.kept.TheConstants.{MAX_CYCLES}
use Rattle.kw_base.specs.Texts.{lines_of}
use Rattle.journal_check.specs.Checking.{AreGood, IsGood, left_by, opening_of}
use Rattle.journal_check.specs.Fitting.{EntryFits, LineFits}
use Rattle.journal_check.specs.Journals.{lines_in, lines_of_batch, numbers_of_batch}
use Rattle.journal_check.specs.Printing.{journal_text, line_text}
use Rattle.journal_check.specs.Reading.{HasShownNames, IsJournal, IsNumbered, numbers_from}
use Rattle.journal_check.specs.declared.journal.Batch.{Batch}
use Rattle.journal_check.specs.declared.journal.Journal.{Journal}
use Rattle.journal_check.specs.declared.line.JournalLine.{JournalLine}
use Rattle.journal_check.specs.declared.line.JournalLine.TheVariants as line
use Rattle.journal_check.proofs.PrintedLines.{printed_is_cut}
use Rattle.journal_check.proofs.BoardAnswers.{HasOwnNames, IsWithin, legal_fits}

-- ---- lines

-- an entry is of a worker with at most this number, and its attempt of a cycle of the batch
abbrev pub IsIn : ℕ → Batch → Entry → Type 0
IsIn workers batch (entry.Submit worker cycle rule inputs events ending answer) = (worker ≤ workers) × (batch.from < cycle) × (cycle ≤ batch.to)
IsIn workers batch (entry.Settle worker answer) = worker ≤ workers

abbrev pub AreIn : ℕ → Batch → Type 0
AreIn workers batch = AllByRecursion (IsIn workers batch) batch.entries

both : {X : Type 0} (P : X → Type 0) (xs ys : List X) → AllByRecursion P xs → AllByRecursion P ys → AllByRecursion P (xs ++ ys)
both P [] ys left right = right
both P (x ∷ xs) ys left right = (left.0, both P xs ys left.1 right)

within : (workers : ℕ) (batch : Batch) → batch.to ≤ MAX_CYCLES → (entries : List Entry) → AllByRecursion (IsIn workers batch) entries → AllByRecursion (IsWithin workers) entries
within workers batch most [] all = tt
within workers batch most (entry.Submit worker cycle rule inputs events ending answer ∷ entries) all = ((all.0.0, omega (arith, all.0.1), omega (arith, all.0.2, most)), within workers batch most entries all.1)
within workers batch most (entry.Settle worker answer ∷ entries) all = (all.0, within workers batch most entries all.1)

module _ (core : Parts) (stimulus : InputVectors) (cycles workers : ℕ) (nodes : AreNodes (length core.rules) core.nodes) (names : HasOwnNames core) (last : cycles ≤ MAX_CYCLES) where
  entry_lines : (entries : List Entry) → AllByRecursion (EntryFits core stimulus workers) entries → AllByRecursion (LineFits core stimulus workers) (map line.Entry entries)
  entry_lines [] all = tt
  entry_lines (e ∷ entries) all = (all.0, entry_lines entries all.1)

  batches_fit : (batches : List Batch) (from : ℕ) (regs : List BitVector) → HaveWidths (register_widths core) regs → AreGood core stimulus cycles from regs batches → AllByRecursion (AreIn workers) batches
      → AllByRecursion (LineFits core stimulus workers) (flat_map lines_of_batch batches)
  batches_fit [] from regs wide good made = tt
  batches_fit (b ∷ batches) from regs wide good made =
      let o = opening_of core stimulus regs b in
      let due = good.0.due in
      let most : b.to ≤ cycles = omega (arith, due.ends) in
      let order : b.from ≤ b.to = omega (arith, due.begins, due.some) in
      let fits = legal_fits o nodes names (omega (arith, most, last)) workers b.entries order wide good.0.legal (within workers b (omega (arith, most, last)) b.entries made.0) in
      both (LineFits core stimulus workers) (lines_of_batch b) (flat_map lines_of_batch batches)
      ((omega (arith, order, most, last), omega (arith, most, last)), entry_lines b.entries fits.0)
      (batches_fit batches b.to (left_by o b.entries) fits.1 good.1 made.1)

  pub lines_fit : (journal : Journal) → HaveWidths (register_widths core) (first_values core) → 1 ≤ workers → workers ≤ 8 → journal.workers ≡ workers → IsGood core stimulus cycles journal → AllByRecursion (AreIn workers) journal.batches
      → AllByRecursion (LineFits core stimulus journal.workers) (lines_in journal)
  lines_fit journal wide some few same good made =
      let rest = batches_fit journal.batches 0 (first_values core) wide good made in
      ((omega (arith, same, some), omega (arith, same, few)), subst (λ (k : ℕ). AllByRecursion (LineFits core stimulus k) (flat_map lines_of_batch journal.batches)) (sym same) rest)

-- ---- numbers of lines

-- the number of the line after these
abbrev number_past : ℕ → List (List ℕ) → ℕ
number_past number [] = number
number_past number (text ∷ texts) = number_past (capped (number + 1)) texts

numbers-append : (number : ℕ) (xs ys : List (List ℕ)) → numbers_from number (xs ++ ys) ≡ numbers_from number xs ++ numbers_from (number_past number xs) ys
numbers-append number [] ys = refl
numbers-append number (x ∷ xs) ys = ap (λ (rest : List ℕ). number ∷ rest) (numbers-append (capped (number + 1)) xs ys)

numbers-count : (number : ℕ) (xs : List (List ℕ)) → length (numbers_from number xs) ≡ length xs
numbers-count number [] = refl
numbers-count number (x ∷ xs) = let rest = numbers-count (capped (number + 1)) xs in omega (arith, rest)

module _ (core : Parts) where
  abbrev texts_of : List JournalLine → List (List ℕ)
  texts_of lines = map (line_text core) lines

  -- a batch whose own line has this number
  abbrev numbered : ℕ → Batch → Batch
  numbered number b = record { from = b.from; to = b.to; line = number; entries = b.entries; lines = numbers_from (capped (number + 1)) (texts_of (map line.Entry b.entries)) }

  abbrev all_numbered : ℕ → List Batch → List Batch
  all_numbered number [] = []
  all_numbered number (b ∷ batches) = numbered number b ∷ all_numbered (number_past number (texts_of (lines_of_batch b))) batches

  -- the journal whose first line has this number
  abbrev pub renumbered : ℕ → Journal → Journal
  renumbered number journal = record { workers = journal.workers; line = number; batches = all_numbered (capped (number + 1)) journal.batches }

  same-lines : (number : ℕ) (batches : List Batch) → flat_map lines_of_batch (all_numbered number batches) ≡ flat_map lines_of_batch batches
  same-lines number [] = refl
  same-lines number (b ∷ batches) = ap (λ (rest : List JournalLine). lines_of_batch b ++ rest) (same-lines (number_past number (texts_of (lines_of_batch b))) batches)

  same-numbers : (number : ℕ) (batches : List Batch) → flat_map numbers_of_batch (all_numbered number batches) ≡ numbers_from number (texts_of (flat_map lines_of_batch batches))
  same-numbers number [] = refl
  same-numbers number (b ∷ batches) =
      let next = number_past number (texts_of (lines_of_batch b)) in
      ap (λ (rest : List ℕ). numbers_from number (texts_of (lines_of_batch b)) ++ rest) (same-numbers next batches)
      ∙ sym (numbers-append number (texts_of (lines_of_batch b)) (texts_of (flat_map lines_of_batch batches)))
      ∙ ap (numbers_from number) (sym (map-append (line_text core) (lines_of_batch b) (flat_map lines_of_batch batches)))

  counted : (number : ℕ) (batches : List Batch) → AllByRecursion IsNumbered (all_numbered number batches)
  counted number [] = tt
  counted number (b ∷ batches) = (
    numbers-count (capped (number + 1)) (texts_of (map line.Entry b.entries)) ∙ length-map (map line.Entry b.entries) (line_text core) ∙ length-map b.entries line.Entry,
    counted (number_past number (texts_of (lines_of_batch b))) batches,
  )

  good-still : (stimulus : InputVectors) (cycles : ℕ) (batches : List Batch) (number from : ℕ) (regs : List BitVector) → AreGood core stimulus cycles from regs batches → AreGood core stimulus cycles from regs (all_numbered number batches)
  good-still stimulus cycles [] number from regs good = good
  good-still stimulus cycles (b ∷ batches) number from regs good = (
    record { due = record { begins = good.0.due.begins; ends = good.0.due.ends; some = good.0.due.some }; legal = good.0.legal; closes = good.0.closes },
    good-still stimulus cycles batches (number_past number (texts_of (lines_of_batch b))) b.to (left_by (opening_of core stimulus regs b) b.entries) good.1,
  )

  pub renumbered-good : (stimulus : InputVectors) (cycles number : ℕ) (journal : Journal) → IsGood core stimulus cycles journal → IsGood core stimulus cycles (renumbered number journal)
  renumbered-good stimulus cycles number journal good = good-still stimulus cycles journal.batches (capped (number + 1)) 0 (first_values core) good

  -- what is printed of a journal is read as it, with the numbers of its lines
  pub read-back : (stimulus : InputVectors) (number : ℕ) (journal : Journal) (text : List ℕ) → HasShownNames core → AllByRecursion (LineFits core stimulus journal.workers) (lines_in journal) → text ≡ journal_text core journal
      → IsJournal core stimulus number text (renumbered number journal)
  read-back stimulus number journal text names fit told =
      let cut : lines_of text ≡ texts_of (lines_in journal) = ap lines_of told ∙ printed_is_cut core stimulus journal names fit in
      let same : lines_in (renumbered number journal) ≡ lines_in journal = ap (λ (rest : List JournalLine). line.Begins journal.workers ∷ rest) (same-lines (capped (number + 1)) journal.batches) in
      record {
        lines = cut ∙ ap (map (line_text core)) (sym same);
        fit = subst (AllByRecursion (LineFits core stimulus journal.workers)) (sym same) fit;
        numbers = ap (λ (rest : List ℕ). number ∷ rest) (same-numbers (capped (number + 1)) journal.batches) ∙ sym (ap (numbers_from number) cut);
        counts = counted (capped (number + 1)) journal.batches;
      }
