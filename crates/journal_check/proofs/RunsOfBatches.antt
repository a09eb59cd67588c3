-- Batches, one on what the other leaves, make the run.
use Rattle.std.proofs.Common.{◌≡◌, ◌≢◌, ℕ, zero, suc, ◌+◌, ◌-◌, ◌<◌, ◌≤◌, Err, List, [], ◌∷◌, ◌++◌, length, get_or, drop, refl, sym, ap, ap₂, ◌∙◌, subst, inl, inr, arith}
use Rattle.std.specs.List.{AllByRecursion}
use Rattle.std.proofs.lemmas.List.{drop_all, drop_more}
use Rattle.kw_base.specs.Fault.{IfFault}
use Rattle.kw_base.specs.declared.fault.Fault.{Fault}
use Rattle.kw_base.specs.declared.fault.Refusal.{Refusal}
use Rattle.kw_base.specs.declared.fault.Refusal.TheVariants as refusals
use Rattle.kw_bits.specs.BitVector.{BitVector}
use Rattle.typed_core.specs.Valid.{IsValid}
use Rattle.typed_core.specs.Widths.{HaveWidths, register_widths}
use Rattle.typed_core.specs.declared.design.Parts.{Parts}
use Rattle.one_rule.specs.Cycle.{System, system_of}
use Rattle.one_rule.specs.Rows.{RowsFit}
use Rattle.one_rule.specs.Run.{InputsByCycle, first_values, last_registers, run, run_of}
use Rattle.one_rule.specs.Stimulus.{AlwaysFits, InputVectors, StimulusFits, inputs_of}
use Rattle.one_rule.specs.declared.rows.Row.{Row}
use Rattle.one_rule.proofs.Runs.{rows_are_cycles, runs_fit, runs_in_parts}
use Rattle.board_core.specs.Board.{Opening}
use Rattle.board_core.specs.History.{board_after}
use Rattle.board_core.specs.Kept.{AtPlain, Kept}
use Rattle.journal_check.specs.Checking.{AreGood, BatchFits, Closes, IsDue, IsFaultFrom, IsFaultOf, IsFirstJournalFault, IsGood, IsGoodBatch, at_line, left_by, opening_of}
use Rattle.journal_check.specs.inner.Replaying.{Leaves, run_in}
use Rattle.journal_check.specs.declared.journal.Batch.{Batch}
use Rattle.journal_check.proofs.Replays.{closed_run}
use Rattle.journal_check.specs.declared.journal.Journal.{Journal}

-- ---- last registers

last_registers-append : (regs : List BitVector) (xs ys : List Row) → last_registers regs (xs ++ ys) ≡ last_registers (last_registers regs xs) ys
last_registers-append regs [] ys = refl
last_registers-append regs (x ∷ xs) ys = last_registers-append x.regs xs ys

-- they are those of the last row
pub last_registers-row : (regs : List BitVector) (rows : List Row) (n : ℕ) (d : Row) → n + 1 ≡ length rows → last_registers regs rows ≡ (get_or rows n d).regs
last_registers-row regs [] n d e = absurd (omega (arith, e))
last_registers-row regs (row ∷ []) zero d e = refl
last_registers-row regs (row ∷ []) (suc n) d e = absurd (omega (arith, e))
last_registers-row regs (row ∷ next ∷ rows) zero d e = absurd (omega (arith, e))
last_registers-row regs (row ∷ next ∷ rows) (suc n) d e = last_registers-row row.regs (next ∷ rows) n d (omega (arith, e))

last_fit : (design : Parts) (regs : List BitVector) (rows : List Row) → HaveWidths (register_widths design) regs → RowsFit design rows → HaveWidths (register_widths design) (last_registers regs rows)
last_fit design regs [] h fit = h
last_fit design regs (row ∷ rows) h fit = last_fit design row.regs rows fit.0.registers fit.1

-- the last registers of a run of a valid design fit
pub last_of_run_fit : (design : Parts) (stimulus : InputVectors) (n : ℕ) (rows : List Row) → rows ≡ run_of design (inputs_of stimulus) n → RowsFit design (run_of design (inputs_of stimulus) n) → HaveWidths (register_widths design) (last_registers [] rows)
last_of_run_fit design stimulus n rows is all =
    let fit : HaveWidths (register_widths design) (last_registers [] (run_of design (inputs_of stimulus) n)) = last_fit design (first_values design) _ all.0.registers all.1 in
    subst (λ (r : List Row). HaveWidths (register_widths design) (last_registers [] r)) (sym is) fit

-- a run has a row for its start
pub run_has_rows : (design : Parts) (stimulus : InputVectors) (n : ℕ) (rows : List Row) → rows ≡ run_of design (inputs_of stimulus) n → 0 < length rows
run_has_rows design stimulus n rows is =
    let count : length rows ≡ n - 0 + 1 = ap length is ∙ rows_are_cycles (system_of design) (inputs_of stimulus) (first_values design) 0 n in
    omega (arith, count)

pub design_runs_fit : (design : Parts) (stimulus : InputVectors) → IsValid design → StimulusFits design stimulus → AlwaysFits stimulus → (n : ℕ) → RowsFit design (run_of design (inputs_of stimulus) n)
design_runs_fit design stimulus valid fits always n =
    runs_fit design (inputs_of stimulus) n valid (λ k after within. subst (λ (widths : List ℕ). HaveWidths widths (inputs_of stimulus k)) fits (always k))

-- ---- a batch more

module _ (design : Parts) (stimulus : InputVectors) (from : ℕ) (o : Opening) (old new : List Row)
    (of_design : o.design ≡ design) (of_stimulus : o.stimulus ≡ stimulus) (begins : o.from ≡ from) (on : o.regs ≡ last_registers [] old)
    (was : old ≡ run_of design (inputs_of stimulus) from) (is : new ≡ old ++ drop 1 (run_in o)) where
  -- the rows so far and those of the batch are those of the run
  pub rows_more : from ≤ o.to → new ≡ run_of design (inputs_of stimulus) o.to
  rows_more order = is ∙ ap₂ (λ (xs ys : List Row). xs ++ drop 1 ys) was same ∙ sym (runs_in_parts system inputs (first_values design) 0 from o.to (omega arith) order)
    where
      system : System
      system = system_of design

      inputs : InputsByCycle
      inputs = inputs_of stimulus

      same : run_in o ≡ run system inputs (last_registers (first_values design) (run_of design inputs from)) from o.to
      same =
          ap (λ (d : Parts). run (system_of d) (inputs_of o.stimulus) o.regs o.from o.to) of_design
          ∙ ap (λ (s : InputVectors). run system (inputs_of s) o.regs o.from o.to) of_stimulus
          ∙ ap₂ (λ (r : List BitVector) (f : ℕ). run system inputs r f o.to) (on ∙ ap (last_registers []) was) begins

  -- the registers that the batch leaves are those of its last row
  pub left_more : last_registers o.regs (run_in o) ≡ last_registers [] new
  left_more = sym (ap (last_registers []) is ∙ last_registers-append [] old (drop 1 (run_in o)) ∙ ap (λ (r : List BitVector). last_registers r (drop 1 (run_in o))) (sym on))

-- the rows of a core that a good batch left, without the first, go on from the rows so far
pub batch_rows : (design : Parts) (stimulus : InputVectors) (n from : ℕ) (regs : List BitVector) (batch : Batch) (k : Kept) (old new later : List Row)
    → AtPlain k → Leaves (opening_of design stimulus regs batch) batch.entries k → Closes (opening_of design stimulus regs batch) batch.entries → IsDue n from batch
    → regs ≡ last_registers [] old → old ≡ run_of design (inputs_of stimulus) from → new ≡ old ++ later → later ≡ drop 1 k.rows
    → (new ≡ run_of design (inputs_of stimulus) batch.to) × (left_by (opening_of design stimulus regs batch) batch.entries ≡ last_registers [] new)
batch_rows design stimulus n from regs batch k old new later plain leaves closes due on was added are = (
  rows_more design stimulus from o old new refl refl due.begins on was is (omega (arith, due.some)),
  ap (last_registers regs) closed.1 ∙ left_more design stimulus from o old new refl refl due.begins on was is,
)
  where
    o : Opening
    o = opening_of design stimulus regs batch

    closed : (k.rows ≡ run_in o) × ((board_after o batch.entries).rows ≡ run_in o)
    closed = closed_run o batch.entries k plain leaves closes

    is : new ≡ old ++ drop 1 (run_in o)
    is = added ∙ ap (λ (rs : List Row). old ++ rs) (are ∙ ap (drop 1) closed.0)

-- ---- batches, one after another

-- so far the rows are those of the run, and what the batches that are left are is what the journal is
pub record HasRechecked (design : Parts) (stimulus : InputVectors) (n : ℕ) (journal : Journal) (i from : ℕ) (rows : List Row) : Type 0 where
  pub within : from ≤ n
  pub run : rows ≡ run_of design (inputs_of stimulus) from
  pub fits : AllByRecursion (BatchFits design stimulus) (drop i journal.batches)
  pub good : AreGood design stimulus n from (last_registers [] rows) (drop i journal.batches) → IsGood design stimulus n journal
  pub faulty : (fault : Fault) → IsFaultFrom design stimulus n journal.line from (last_registers [] rows) (drop i journal.batches) fault → IsFirstJournalFault design stimulus n journal fault

module _ (design : Parts) (stimulus : InputVectors) (n : ℕ) (journal : Journal) where
  pub none_rechecked : (rows : List Row) → rows ≡ run_of design (inputs_of stimulus) 0 → AllByRecursion (BatchFits design stimulus) journal.batches → HasRechecked design stimulus n journal 0 0 rows
  none_rechecked rows is fits = record {
    within = omega arith;
    run = is;
    fits = fits;
    good = λ good. subst (λ (regs : List BitVector). AreGood design stimulus n 0 regs journal.batches) first good;
    faulty = λ fault faulty. subst (λ (regs : List BitVector). IsFaultFrom design stimulus n journal.line 0 regs journal.batches fault) first faulty;
  }
    where
      first : last_registers [] rows ≡ first_values design
      first = ap (last_registers []) is

  module _ {i from : ℕ} {rows : List Row} (so_far : HasRechecked design stimulus n journal i from rows) where
    -- all batches are good, and the last ends with cycle n, or earlier
    pub all_good : length journal.batches ≤ i → from ≡ n → IsGood design stimulus n journal
    all_good past ends =
        so_far.good (subst (AreGood design stimulus n from (last_registers [] rows)) (sym (drop_all i journal.batches past)) ends)

    pub ends_early : length journal.batches ≤ i → from ≢ n → IsFirstJournalFault design stimulus n journal (at_line 83 journal.line)
    ends_early past early =
        so_far.faulty (at_line 83 journal.line)
        (subst (λ (bs : List Batch). IsFaultFrom design stimulus n journal.line from (last_registers [] rows) bs (at_line 83 journal.line)) (sym (drop_all i journal.batches past)) (early, refl))

    module _ (batch : Batch) (regs : List BitVector) (inside : i < length journal.batches) (is : batch ≡ get_or journal.batches i batch) (last : regs ≡ last_registers [] rows) where
      abbrev o : Opening
      o = opening_of design stimulus regs batch

      batches_from : drop i journal.batches ≡ batch ∷ drop (i + 1) journal.batches
      batches_from = drop_more journal.batches i batch inside ∙ ap (λ (b : Batch). b ∷ drop (i + 1) journal.batches) (sym is)

      pub next_batch_fits : BatchFits design stimulus batch
      next_batch_fits = (subst (AllByRecursion (BatchFits design stimulus)) batches_from so_far.fits).0

      faulty_from : (fault : Fault) → IsFaultFrom design stimulus n journal.line from regs (batch ∷ drop (i + 1) journal.batches) fault → IsFirstJournalFault design stimulus n journal fault
      faulty_from fault wrong =
          so_far.faulty fault (subst (λ (bs : List Batch). IsFaultFrom design stimulus n journal.line from (last_registers [] rows) bs fault) (sym batches_from) (
          subst (λ (r : List BitVector). IsFaultFrom design stimulus n journal.line from r (batch ∷ drop (i + 1) journal.batches) fault) last wrong))

      -- the batch is good
      pub next_good : (new : List Row) → new ≡ run_of design (inputs_of stimulus) batch.to → IsGoodBatch n from o batch → left_by o batch.entries ≡ last_registers [] new → HasRechecked design stimulus n journal (i + 1) batch.to new
      next_good new run good left = record {
        within = omega (arith, good.due.ends);
        run = run;
        fits = (subst (AllByRecursion (BatchFits design stimulus)) batches_from so_far.fits).1;
        good = λ rest. so_far.good (subst (λ (bs : List Batch). AreGood design stimulus n from (last_registers [] rows) bs) (sym batches_from) (
            subst (λ (r : List BitVector). AreGood design stimulus n from r (batch ∷ drop (i + 1) journal.batches)) last (
              good,
              subst (λ (r : List BitVector). AreGood design stimulus n batch.to r (drop (i + 1) journal.batches)) (sym left) rest,
            )));
        faulty = λ fault rest. faulty_from fault (inr (
          good,
          subst (λ (r : List BitVector). IsFaultFrom design stimulus n journal.line batch.to r (drop (i + 1) journal.batches) fault) (sym left) rest,
        ));
      }

      -- the batch has a fault
      pub next_faulty : (fault : Fault) → IsFaultOf n from o batch fault → IsFirstJournalFault design stimulus n journal fault
      next_faulty fault wrong = faulty_from fault (inl wrong)

-- what is a fault of a call is one of its caller
pub fault_onto : (P Q : Fault → Type 0) (refusal : Refusal) → ((fault : Fault) → P fault → Q fault) → IfFault {X = Unit {0}} (Err refusal) P → IfFault {X = Unit {0}} (Err refusal) Q
fault_onto P Q (refusals.Fault fault) onto p = onto fault p
fault_onto P Q refusals.NoMemory onto p = tt

-- a fault that is returned
pub refused : (P : Fault → Type 0) (refusal : Refusal) (fault : Fault) → refusal ≡ refusals.Fault fault → P fault → IfFault {X = Unit {0}} (Err refusal) P
refused P refusal fault is p = subst (λ (r : Refusal). IfFault {X = Unit {0}} (Err r) P) (sym is) p
