-- The rows of a design's run, and the batches that the plain engine makes of it.
use Rattle.std.proofs.Common.{◌≡◌, ℕ, zero, suc, ◌+◌, ◌-◌, ◌<◌, ◌≤◌, List, [], ◌∷◌, ◌++◌, length, get_or, take, drop, refl, sym, ap, subst, ◌∙◌, arith, length-drop, drop-cons}
use Rattle.std.proofs.Math.ListN.{drop_of_length-le}
use Rattle.std.proofs.lemmas.List.{drop-append-le, drop-drop, take-append-drop, take_at}
use Rattle.std.specs.Prelude.{slice_set}
use Rattle.std.specs.List.{AllByRecursion}
use Rattle.kw_bits.specs.BitVector.{BitVector}
use Rattle.typed_core.specs.declared.design.Parts.{Parts}
use Rattle.one_rule.specs.Cycle.{System, system_of}
use Rattle.one_rule.specs.Rows.{RowFits, RowsFit}
use Rattle.one_rule.specs.Run.{InputsByCycle, first_values, last_registers, opening, rows_after, run, run_of}
use Rattle.one_rule.specs.Stimulus.{InputVectors, inputs_of}
use Rattle.one_rule.specs.declared.rows.Row.{Row}
use Rattle.one_rule.proofs.Runs.{rows_are_cycles, runs_in_parts}
use Rattle.koika_top.specs.inner.Engines.{AreRows, HasRun}
use Rattle.koika_top.proofs.MachineRows.{drop-none}

-- ---- the rows of a run

-- the registers that rows end with are those of the last row
last-registers : (regs : List BitVector) (front : List Row) (last : Row) → last_registers regs (front ++ (last ∷ [])) ≡ last.regs
last-registers regs [] last = refl
last-registers regs (row ∷ front) last = last-registers row.regs front last

module _ (system : System) (inputs : InputsByCycle) (first : List BitVector) where
  abbrev to : ℕ → List Row
  to n = run system inputs first 0 n

  to-count : (n : ℕ) → length (to n) ≡ n + 1
  to-count n = omega (arith, rows_are_cycles system inputs first 0 n)

  -- a run is a shorter one and the rows after it
  parts : (k n : ℕ) → k ≤ n → to n ≡ to k ++ drop 1 (run system inputs (last_registers first (to k)) k n)
  parts k n h = runs_in_parts system inputs first 0 k n (omega arith) h

  to-front : (k n : ℕ) → k ≤ n → to k ≡ take (k + 1) (to n)
  to-front k n h =
      let rest : List Row = drop 1 (run system inputs (last_registers first (to k)) k n) in
      sym (take_at (to k) rest (k + 1) (to-count k)) ∙ sym (ap (take (k + 1)) (parts k n h))

  -- the rows of a run by its number of cycles
  pub are-rows : AreRows to
  are-rows = record { count = to-count; front = to-front }

  -- where a run ends with a row, it leaves its registers
  left : (k : ℕ) (last : Row) → drop k (to k) ≡ last ∷ [] → last_registers first (to k) ≡ last.regs
  left k last ends =
      ap (last_registers first) (sym (take-append-drop k (to k)) ∙ ap (λ (rest : List Row). take k (to k) ++ rest) ends)
      ∙ last-registers first (take k (to k)) last

  -- the rows from a cycle on, the first of which is the row of that cycle
  pub batch-from : (k n : ℕ) (last : Row) (batch : List Row) → k ≤ n → drop k (to k) ≡ last ∷ [] → batch ≡ run system inputs last.regs k n → slice_set batch 0 last ≡ drop k (to n)
  batch-from k n last batch h ends is =
      let after : List Row = rows_after system inputs (n - k) k last.regs in
      let same : drop 1 (run system inputs (last_registers first (to k)) k n) ≡ after =
      ap (λ (regs : List BitVector). drop 1 (run system inputs regs k n)) (left k last ends) ∙ drop-none after
      in
      let whole : drop k (to n) ≡ last ∷ after =
      ap (drop k) (parts k n h)
      ∙ drop-append-le k (to k) (drop 1 (run system inputs (last_registers first (to k)) k n)) (omega (arith, to-count k))
      ∙ ap (λ (front : List Row). front ++ drop 1 (run system inputs (last_registers first (to k)) k n)) ends
      ∙ ap (λ (rest : List Row). last ∷ rest) same
      in
      ap (λ (b : List Row). slice_set b 0 last) is ∙ sym whole

  -- the last row of a batch is the last one of the run
  pub last-of-batch : (k n m : ℕ) (last : Row) (batch : List Row) → k ≤ n → m ≡ n - k → batch ≡ drop k (to n) → last ≡ get_or batch m last → drop n (to n) ≡ last ∷ []
  last-of-batch k n m last batch h index is at =
      let count : length batch ≡ m + 1 = omega (arith, ap length is, length-drop k (to n), to-count n, index, h) in
      let sum : k + m ≡ n = omega (arith, index, h) in
      sym (ap (λ (i : ℕ). drop i (to n)) sum)
      ∙ sym (drop-drop m k (to n))
      ∙ sym (ap (drop m) is)
      ∙ drop-cons batch m last (omega (arith, count))
      ∙ ap (λ (row : Row). row ∷ drop (suc m) batch) (sym at)
      ∙ ap (λ (rest : List Row). last ∷ rest) (drop_of_length-le batch {i = suc m} (omega (arith, count)))

-- ---- the plain engine

-- what holds of all rows holds of one
row-at : (P : Row → Type 0) (rows : List Row) (i : ℕ) (d : Row) → i < length rows → AllByRecursion P rows → P (get_or rows i d)
row-at P [] i d h all = absurd (omega (arith, h))
row-at P (row ∷ rows) zero d h all = all.0
row-at P (row ∷ rows) (suc i) d h all = row-at P rows i d (omega (arith, h)) all.1

-- and still does where the first is put in the place of another
set-first : (P : Row → Type 0) (rows : List Row) (first : Row) → P first → AllByRecursion P rows → AllByRecursion P (slice_set rows 0 first)
set-first P [] first h all = all
set-first P (row ∷ rows) first h all = (h, all.1)

length-set-first : (rows : List Row) (first : Row) → length (slice_set rows 0 first) ≡ length rows
length-set-first [] first = refl
length-set-first (row ∷ rows) first = refl

module _ (design : Parts) (stimulus : InputVectors) where
  abbrev rows : ℕ → List Row
  rows n = run_of design (inputs_of stimulus) n

  -- before all cycles the last row is the opening one
  pub has-begun : (regs : List BitVector) (last : Row) → regs ≡ first_values design → last ≡ opening (length design.rules) regs → RowFits design last → HasRun design stimulus 0 last
  has-begun regs last first is fits = record {
    row = ap (λ (row : Row). row ∷ []) (sym (is ∙ ap (opening (length design.rules)) first));
    fits = fits;
  }

  module _ (at to : ℕ) (up : at ≤ to) (last : Row) (has : HasRun design stimulus at last) (made : List Row) (is : made ≡ run (system_of design) (inputs_of stimulus) last.regs at to) where
    -- the rows of a batch
    pub batch-rows : (batch : List Row) → batch ≡ slice_set made 0 last → batch ≡ drop at (rows to)
    batch-rows batch set = set ∙ batch-from (system_of design) (inputs_of stimulus) (first_values design) at to last made up has.row is

    made-count : length made ≡ to - at + 1
    made-count = ap length is ∙ rows_are_cycles (system_of design) (inputs_of stimulus) last.regs at to

    pub made-some : 0 < length made
    made-some = omega (arith, made-count)

    -- and the row that it has run up to then
    pub has-run : (batch : List Row) (next : Row) → batch ≡ slice_set made 0 last → next ≡ get_or batch (length made - 1) next → RowsFit design made → HasRun design stimulus to next
    has-run batch next set at_end fit =
        let count : length batch ≡ length made = ap length set ∙ length-set-first made last in
        record {
          row = last-of-batch (system_of design) (inputs_of stimulus) (first_values design) at to (length made - 1) next batch up (omega (arith, made-count, up)) (batch-rows batch set) at_end;
          fits =
              subst (RowFits design) (sym at_end)
              (row-at (RowFits design) batch (length made - 1) next (omega (arith, count, made-count))
              (subst (AllByRecursion (RowFits design)) (sym set) (set-first (RowFits design) made last has.fits fit)));
        }
