-- What is said of a stimulus by its inputs alone holds of each stimulus with the same inputs in every cycle: which
-- journals are read and good, and the text of a run.
use Rattle.std.proofs.Common.{◌≡◌, ◌<◌, ℕ, List, [], ◌∷◌, ◌++◌, map, refl, ap, subst, ◌∙◌}
use Rattle.std.specs.List.{AllByRecursion, flat_map}
use Rattle.kw_bits.specs.BitVector.{BitVector}
use Rattle.typed_core.specs.declared.design.Parts.{Parts}
use Rattle.one_rule.specs.Run.{InputsByCycle, first_values, last_registers}
use Rattle.one_rule.specs.Stimulus.{AreSame, InputVectors, inputs_of}
use Rattle.attempt_log.specs.declared.entry.Entry.{Entry}
use Rattle.attempt_log.specs.declared.entry.Entry.TheVariants as entry
use Rattle.board_core.specs.Board.{Board, BoardRun, Opening, BoardStep, opened, run_events, step}
use Rattle.board_core.specs.History.{IsLegal, SubmitsFor, board_after, events_of, told_of}
use Rattle.board_core.specs.declared.event.BoardEvent.{BoardEvent}
use Rattle.board_core.specs.declared.event.BoardEvent.TheVariants as event
use Rattle.journal_check.specs.Checking.{AreGood, IsGood, left_by, opening_of}
use Rattle.journal_check.specs.Fitting.{EntryFits, LineFits}
use Rattle.journal_check.specs.Journals.{lines_of_batch}
use Rattle.journal_check.specs.Reading.{IsJournal}
use Rattle.journal_check.specs.declared.journal.Batch.{Batch}
use Rattle.journal_check.specs.declared.journal.Journal.{Journal}
use Rattle.koika_check.specs.declared.checked.Checked.{Checked}
use Rattle.front_end.specs.Marks.{marks_of}
use Rattle.koika_top.specs.Sim.{text_of_rows, text_of_run}
use Rattle.front_end.specs.Sources.{shape_of}
use Rattle.front_end.specs.Systems.{run_of}
use Rattle.koika_top.specs.declared.shown.Shown.{Shown}

module _ (a b : InputVectors) (same : AreSame a b) where
  -- a run has one text on both
  pub text-same : (d : Checked) (cycles : ℕ) (shown : Shown) → text_of_run d a cycles shown ≡ text_of_run d b cycles shown
  text-same d cycles shown =
      let inputs : inputs_of a ≡ inputs_of b = λ i cycle. same.inputs cycle i in
      ap (λ (given : InputsByCycle). text_of_rows shown (shape_of d) (marks_of d) (run_of d given cycles)) inputs

  module _ (design : Parts) where
    -- ---- journals that are read

    -- an entry that fits one stimulus fits the other
    entry_fits : (workers : ℕ) (e : Entry) → EntryFits design a workers e → EntryFits design b workers e
    entry_fits workers (entry.Submit worker cycle rule inputs events ending answer) fits = (fits.0, fits.1, fits.2, fits.3, fits.4 ∙ same.inputs cycle, fits.5, fits.6)
    entry_fits workers (entry.Settle worker answer) fits = fits

    -- and so the entries of a batch, where the batches after it do
    entries_fit : (workers : ℕ) (batch : Batch) (entries : List Entry) (batches : List Batch)
        → AllByRecursion (LineFits design a workers) (lines_of_batch (record batch { entries = entries }) ++ flat_map lines_of_batch batches)
        → AllByRecursion (LineFits design b workers) (flat_map lines_of_batch batches)
        → AllByRecursion (LineFits design b workers) (lines_of_batch (record batch { entries = entries }) ++ flat_map lines_of_batch batches)
    entries_fit workers batch [] batches fit rest = (fit.0, rest)
    entries_fit workers batch (e ∷ entries) batches fit rest =
        let later = entries_fit workers batch entries batches (fit.0, fit.1.1) rest in (fit.0, (entry_fits workers e fit.1.0, later.1))

    -- the lines after those of a batch fit where all do
    rest_fits : (workers : ℕ) (batch : Batch) (entries : List Entry) (batches : List Batch)
        → AllByRecursion (LineFits design a workers) (lines_of_batch (record batch { entries = entries }) ++ flat_map lines_of_batch batches)
        → AllByRecursion (LineFits design a workers) (flat_map lines_of_batch batches)
    rest_fits workers batch [] batches fit = fit.1
    rest_fits workers batch (e ∷ entries) batches fit = rest_fits workers batch entries batches (fit.0, fit.1.1)

    -- so the lines of batches fit
    batches_fit : (workers : ℕ) (batches : List Batch) → AllByRecursion (LineFits design a workers) (flat_map lines_of_batch batches) → AllByRecursion (LineFits design b workers) (flat_map lines_of_batch batches)
    batches_fit workers [] fit = tt
    batches_fit workers (batch ∷ batches) fit = entries_fit workers batch batch.entries batches fit (batches_fit workers batches (rest_fits workers batch batch.entries batches fit))

    -- a text is one journal for both
    pub journal-same : (first_line : ℕ) (text : List ℕ) (journal : Journal) → IsJournal design a first_line text journal → IsJournal design b first_line text journal
    journal-same first_line text journal is = record { lines = is.lines; fit = (is.fit.0, batches_fit journal.workers journal.batches is.fit.1); numbers = is.numbers; counts = is.counts }

    -- ---- good journals

    module _ (regs : List BitVector) (batch : Batch) where
      -- the boards of a batch on either stimulus
      abbrev of_a : Opening
      of_a = opening_of design a regs batch

      abbrev of_b : Opening
      of_b = opening_of design b regs batch

      -- a board's step reads no input of its stimulus
      step-same : (board : Board) (e : BoardEvent) → step of_a board e ≡ step of_b board e
      step-same board (event.Submit attempt) = refl
      step-same board event.Settle = refl

      -- so events have the same answers and leave the same board
      run-same : (board : Board) (events : List BoardEvent) → run_events of_a board events ≡ run_events of_b board events
      run-same board [] = refl
      run-same board (e ∷ events) =
          ap (λ (first : BoardStep). let rest : BoardRun = run_events of_a first.board events in let both : BoardRun = record { answers = first.answer ∷ rest.answers; board = rest.board } in both) (step-same board e)
          ∙ ap (λ (rest : BoardRun). let both : BoardRun = record { answers = (step of_b board e).answer ∷ rest.answers; board = rest.board } in both) (run-same (step of_b board e).board events)

      -- and so have the events of a history
      whole-same : (entries : List Entry) → run_events of_a (opened of_a) (events_of of_a entries) ≡ run_events of_b (opened of_b) (events_of of_b entries)
      whole-same entries = run-same (opened of_a) (events_of of_a entries)

      -- an attempt that is for one board is for the other
      submits-same : (events : List BoardEvent) → AllByRecursion (SubmitsFor of_a) events → AllByRecursion (SubmitsFor of_b) events
      submits-same [] all = tt
      submits-same (event.Submit attempt ∷ events) all =
          (record { attempt = all.0.attempt; is_for = record { design = all.0.is_for.design; inputs = all.0.is_for.inputs ∙ same.inputs attempt.cycle } }, submits-same events all.1)
      submits-same (event.Settle ∷ events) all = (tt, submits-same events all.1)

      -- a history that is legal on one board is legal on the other
      legal-same : (entries : List Entry) → IsLegal of_a entries → IsLegal of_b entries
      legal-same entries legal = record {
        attempts = submits-same (events_of of_a entries) legal.attempts;
        answers = legal.answers ∙ ap (λ (run : BoardRun). map told_of run.answers) (whole-same entries);
      }

      -- and leaves the same board
      board-same : (entries : List Entry) → board_after of_a entries ≡ board_after of_b entries
      board-same entries = ap (λ (run : BoardRun). run.board) (whole-same entries)

    -- so batches are good
    are_good : (n from : ℕ) (regs : List BitVector) (batches : List Batch) → AreGood design a n from regs batches → AreGood design b n from regs batches
    are_good n from regs [] good = good
    are_good n from regs (batch ∷ batches) good =
        let left = board-same regs batch batch.entries in (
          record {
            due = good.0.due;
            legal = legal-same regs batch batch.entries good.0.legal;
            closes = subst (λ (board : Board). batch.to < board.cycle) left good.0.closes;
          },
          are_good n batch.to (left_by (opening_of design b regs batch) batch.entries) batches
              (subst (λ (board : Board). AreGood design a n batch.to (last_registers regs board.rows) batches) left good.1),
        )

    -- a journal that is good for one is good for the other
    pub good-same : (n : ℕ) (journal : Journal) → IsGood design a n journal → IsGood design b n journal
    good-same n journal good = are_good n 0 (first_values design) journal.batches good
