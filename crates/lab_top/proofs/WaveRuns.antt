-- The waves of a run that is made in batches.
use Rattle.std.proofs.Common.{◌≡◌, ℕ, ◌+◌, ◌-◌, ◌≤◌, List, [], ◌∷◌, ◌++◌, length, refl, sym, ap, subst, ◌∙◌, arith}
use Rattle.std.specs.List.{fold}
use Rattle.kw_bits.specs.BitVector.{BitVector}
use Rattle.koika_check.specs.declared.checked.Checked.{Checked}
use Rattle.koika_lower.specs.Lowering.{IsLowered, typed_input_widths}
use Rattle.one_rule.specs.Cycle as core_cycle
use Rattle.one_rule.specs.Cycle.{System}
use Rattle.one_rule.specs.Rows as core_rows
use Rattle.one_rule.specs.Run as core_run
use Rattle.one_rule.specs.Run.{InputsByCycle, last_registers, rows_after, run}
use Rattle.one_rule.specs.declared.rows.Row.{Row}
use Rattle.one_rule.proofs.Runs.{rows_are_cycles, runs_fit, runs_in_parts}
use Rattle.typed_core.specs.Valid.{IsValid}
use Rattle.typed_core.specs.Widths.{HaveWidths}
use Rattle.typed_core.specs.declared.design.Parts.{Parts}
use Rattle.stim_report.specs.Batches.{joined, last_cycle}
use Rattle.stim_report.specs.Shapes.{RowsMatch, widths_of}
use Rattle.stim_report.specs.Summary.{last_values}
use Rattle.stim_report.specs.declared.shape.NameWidth.{NameWidth}
use Rattle.stim_report.specs.declared.shape.Shape.{Shape}
use Rattle.stim_report.proofs.ShapesOfDesigns.{match_fit, rows_match}
use Rattle.stim_report.proofs.TotalsOfBatches.{length-last_values}
use Rattle.front_end.specs.Sources.{of_input, shape_of}
use Rattle.front_end.specs.Systems as typed
use Rattle.front_end.specs.Systems.{run_of}
use Rattle.front_end.proofs.LoweredRuns.{registers-named, rules-named, run-same, twice}
use Rattle.wave_text.specs.Parts.{GoesOn, Progress, TakesRows, last_of, moments_before_last, part, progress}
use Rattle.wave_text.specs.Waves.{edges, variables}
use Rattle.wave_text.specs.declared.level.Level.{Level}
use Rattle.wave_text.proofs.Batches.{takes_rows}
use Rattle.lab_top.specs.inner.Waves.{edges_to}
use Rattle.lab_top.proofs.LabRuns.{core-fit}
use Rattle.lab_top.proofs.Registers.{left}

-- ---- rows

-- the values of the last row are the registers that the rows end with
values-registers : (regs : List BitVector) (rows : List Row)
    → fold (λ (values : List BitVector) (row : Row). row.regs) regs rows ≡ last_registers regs rows
values-registers regs [] = refl
values-registers regs (row ∷ rows) = values-registers row.regs rows

run-values : (system : System) (inputs : InputsByCycle) (regs : List BitVector) (from to : ℕ)
    → last_values (run system inputs regs from to) ≡ last_registers regs (run system inputs regs from to)
run-values system inputs regs from to = values-registers regs (rows_after system inputs (to - from) from regs)

-- the widths of a design's inputs are those that texts tell of them
pub shape-wide : (d : Checked) (shape : Shape) → shape ≡ shape_of d → typed_input_widths d ≡ widths_of shape.inputs
shape-wide d shape is =
    sym (twice of_input (λ (one : NameWidth). one.width) d.inputs) ∙ ap (λ (s : Shape). widths_of s.inputs) (sym is)

-- ---- what was taken

module _ (d : Checked) (inputs : InputsByCycle) (n : ℕ) where
  rows-many : length (run_of d inputs n) ≡ n - 0 + 1
  rows-many = rows_are_cycles (typed.system_of d) inputs (typed.first_values d) 0 n

  run-cycle : last_cycle (run_of d inputs n) ≡ n
  run-cycle = omega (arith, rows-many)

  module _ (now : Progress) (rows : now ≡ progress (shape_of d) inputs (run_of d inputs n)) where
    -- the cycle up to which rows were taken
    pub taken-cycle : now.cycle ≡ n
    unfolding progress
    taken-cycle = ap (λ (p : Progress). p.cycle) rows ∙ run-cycle

    taken-values : now.registers ≡ last_values (run_of d inputs n)
    unfolding progress
    taken-values = ap (λ (p : Progress). p.registers) rows

    -- there is a value for each register
    pub taken-registers : RowsMatch (shape_of d) (run_of d inputs n)
        → length now.registers ≡ length (shape_of d).registers
    taken-registers fit =
        let some : 1 ≤ length (run_of d inputs n) = omega (arith, rows-many) in
        ap length taken-values
        ∙ length-last_values (shape_of d).registers (shape_of d).rules (run_of d inputs n) some (match_fit (shape_of d).registers (shape_of d).rules (run_of d inputs n) fit)

-- before all rows there is no cycle
pub first-cycle : (shape : Shape) (inputs : InputsByCycle) (now : Progress)
    → now ≡ progress shape inputs [] → now.cycle ≡ 0
unfolding progress
first-cycle shape inputs now is = ap (λ (p : Progress). p.cycle) is

-- ---- batches

-- what is known of a batch that was taken
abbrev pub Takes : Shape → InputsByCycle → List Row → Progress → Progress → List ℕ → Type 0
Takes shape inputs rows old now text =
    (before : List Row) → old ≡ progress shape inputs before → GoesOn before rows
    → TakesRows shape inputs before rows now text

-- the rows of a batch go on from those before it
module _ (system : System) (inputs : InputsByCycle) (first : List BitVector) where
  abbrev rows-to : ℕ → List Row
  rows-to n = run system inputs first 0 n

  abbrev pub batch : ℕ → ℕ → List Row
  batch from to = run system inputs (left system inputs first from) from to

  joined-rows : (from to : ℕ) → from ≤ to → joined (rows-to from) (batch from to) ≡ rows-to to
  joined-rows from to up = sym (runs_in_parts system inputs first 0 from to (omega arith) up)

  goes-on : (from to : ℕ) → GoesOn (rows-to from) (batch from to)
  goes-on from to = sym (run-values system inputs first 0 from)

  batch-some : (from to : ℕ) → 1 ≤ length (batch from to)
  batch-some from to = omega (arith, rows_are_cycles system inputs (left system inputs first from) from to)

  -- what is written of more cycles begins with what is written of fewer
  pub part-begins : (shape : Shape) (from to : ℕ) → from ≤ to
      → (rest : List ℕ) × (part shape inputs (rows-to to) ≡ part shape inputs (rows-to from) ++ rest)
  part-begins shape from to up =
      let old : Progress = progress shape inputs (rows-to from) in
      let moments : List (List Level) = moments_before_last inputs old.cycle (batch from to) in
      let rest : List ℕ = edges (variables shape) old.cycle old.levels moments in
      let now : Progress = record {
        cycle = old.cycle + (length (batch from to) - 1);
        levels = last_of old.levels moments;
        registers = last_values (batch from to);
      } in
      let takes =
      takes_rows shape inputs (rows-to from) (batch from to) (batch-some from to) (goes-on from to)
      old now rest refl refl refl refl refl
      in
      (rest, ap (part shape inputs) (sym (joined-rows from to up)) ∙ takes.written)

module _ (d : Checked) (design : Parts) (lowered : IsLowered d design) (valid : IsValid design) where
  module _ (inputs : InputsByCycle) (fit : (k : ℕ) → HaveWidths (typed_input_widths d) (inputs k)) where
    pub same-run : (n : ℕ) → core_run.run_of design inputs n ≡ run_of d inputs n
    same-run n = run-same d design lowered valid inputs fit n

    -- rows of the design match what texts tell of it
    pub rows-fit : (rows : List Row) → core_rows.RowsFit design rows → RowsMatch (shape_of d) rows
    rows-fit rows all =
        rows_match design (shape_of d).registers (shape_of d).rules (registers-named d design lowered)
        (rules-named d design lowered) rows all

    pub run-fits : (n : ℕ) → RowsMatch (shape_of d) (run_of d inputs n)
    run-fits n =
        subst (RowsMatch (shape_of d)) (same-run n)
        (rows-fit (core_run.run_of design inputs n)
        (runs_fit design inputs n valid (λ k low high. core-fit d design lowered valid inputs fit k)))

    abbrev pub rows-from : ℕ → ℕ → List Row
    rows-from from to = batch (core_cycle.system_of design) inputs (core_run.first_values design) from to

    -- after rows up to a cycle, and a batch, rows were taken up to the batch's end
    pub took : (from to : ℕ) → from ≤ to → (old now : Progress) (text : List ℕ)
        → old ≡ progress (shape_of d) inputs (run_of d inputs from)
        → Takes (shape_of d) inputs (rows-from from to) old now text
        → (now ≡ progress (shape_of d) inputs (run_of d inputs to))
        × (edges_to d inputs to ≡ edges_to d inputs from ++ text)
    took from to up old now text so_far takes =
        let system = core_cycle.system_of design in
        let first = core_run.first_values design in
        let before : old ≡ progress (shape_of d) inputs (core_run.run_of design inputs from) =
        so_far ∙ ap (progress (shape_of d) inputs) (sym (same-run from)) in
        let one = takes (core_run.run_of design inputs from) before (goes-on system inputs first from to) in
        let all = joined-rows system inputs first from to up ∙ same-run to in (
          one.rows ∙ ap (progress (shape_of d) inputs) all,
          sym (ap (part (shape_of d) inputs) all) ∙ one.written
              ∙ ap (λ (rows : List Row). part (shape_of d) inputs rows ++ text) (same-run from),
        )

    -- a first batch of no cycles takes a first row, of which no text is written
    pub took-first : (shape : Shape) (ins : InputsByCycle) (made : List Row) → shape ≡ shape_of d → ins ≡ inputs
        → made ≡ core_run.run_of design inputs 0 → (now : Progress) (text : List ℕ)
        → TakesRows shape ins [] made now text → now ≡ progress (shape_of d) inputs (run_of d inputs 0)
    took-first shape ins made shape_is ins_are made_are now text takes =
        takes.rows ∙ (λ i. progress (shape_is i) (ins_are i) (made_are i))
        ∙ ap (progress (shape_of d) inputs) (same-run 0)
