-- The waves of what was read of a source.
use Rattle.std.proofs.Common.{◌≡◌, ℕ, ◌≤◌, List, [], ◌++◌, length, sym, ap, subst, ◌∙◌}
use Rattle.std.specs.Arc.{arc_value}
use Rattle.kw_bits.specs.BitVector.{BitVector}
use Rattle.koika_lower.specs.Lowering as lowering
use Rattle.one_rule.specs.Cycle.{system_of}
use Rattle.one_rule.specs.Rows as core_rows
use Rattle.one_rule.specs.Run.{InputsByCycle, first_values, run}
use Rattle.one_rule.specs.Stimulus.{AlwaysFits, InputVectors, inputs_of}
use Rattle.one_rule.specs.declared.rows.Row.{Row}
use Rattle.typed_core.specs.Valid.{IsValid}
use Rattle.typed_core.specs.Widths.{HaveWidths, input_widths, register_widths}
use Rattle.typed_core.specs.declared.design.Parts.{Parts}
use Rattle.stim_report.specs.Shapes.{RowsMatch, widths_of}
use Rattle.stim_report.specs.declared.shape.Shape.{Shape}
use Rattle.front_end.specs.Sources.{shape_of}
use Rattle.front_end.specs.Systems.{run_of}
use Rattle.front_end.specs.declared.lowered.Lowered.{Lowered}
use Rattle.wave_text.specs.Parts.{Progress, TakesRows, progress}
use Rattle.wave_text.specs.Waves.{variables}
use Rattle.lab_top.specs.inner.Registers.{registers_after}
use Rattle.lab_top.specs.inner.Waves.{HasTaken, edges_to}
use Rattle.lab_top.proofs.LabRuns.{core-fit, stimulus-fit, stimulus-wide}
use Rattle.lab_top.proofs.Registers.{left-fit}
use Rattle.lab_top.proofs.WaveRuns.{Takes, rows-fit, rows-from, run-fits, shape-wide, taken-registers, took, took-first}

module _ (it : Lowered) where
  abbrev pub core : Parts
  core = arc_value it.design

  abbrev pub given : InputsByCycle
  given = inputs_of (arc_value it.stimulus)

  -- there is a value for each variable and each register, also by what texts show
  pub levels-of : (n : ℕ) (now : Progress) → HasTaken it.checked given n now
      → length now.levels ≡ length (variables it.shape)
  levels-of n now taken = taken.levels ∙ ap (λ (s : Shape). length (variables s)) (sym it.shape_fits)

  pub registers-of : (n : ℕ) (now : Progress) → HasTaken it.checked given n now
      → length now.registers ≡ length it.shape.registers
  registers-of n now taken = taken.registers ∙ ap (λ (s : Shape). length s.registers) (sym it.shape_fits)

  module _ (design : Parts) (stimulus : InputVectors) (is : design ≡ core) (by : stimulus ≡ arc_value it.stimulus) where
    -- the stimulus has the widths of the design's inputs, and of those that texts tell of
    pub fits-design : stimulus.widths ≡ input_widths design
    fits-design =
        ap (λ (s : InputVectors). s.widths) by ∙ stimulus-wide it.checked core it.lowered _ it.stimulus_fits
        ∙ sym (ap input_widths is)

    pub fits-shape : stimulus.widths ≡ widths_of it.shape.inputs
    fits-shape =
        ap (λ (s : InputVectors). s.widths) by ∙ it.stimulus_fits ∙ shape-wide it.checked it.shape it.shape_fits

    module _ (holds : IsValid design) (always : AlwaysFits stimulus) where
      valid : IsValid core
      valid = subst IsValid is holds

      fit : (k : ℕ) → HaveWidths (lowering.typed_input_widths it.checked) (given k)
      fit = stimulus-fit it.checked (arc_value it.stimulus) it.stimulus_fits (subst AlwaysFits by always)

      -- the registers that a batch begins with fit, and so do its rows
      pub registers-fit : (n : ℕ) (regs : List BitVector) → regs ≡ registers_after core given n
          → HaveWidths (register_widths design) regs
      registers-fit n regs are =
          subst (λ (d : Parts). HaveWidths (register_widths d) regs) (sym is)
          (subst (HaveWidths (register_widths core)) (sym are)
          (left-fit core valid given (core-fit it.checked core it.lowered valid given fit) n))

      pub made-fit : (rows : List Row) → core_rows.RowsFit design rows → RowsMatch it.shape rows
      made-fit rows all =
          subst (λ (s : Shape). RowsMatch s rows) (sym it.shape_fits)
          (rows-fit it.checked core it.lowered valid given fit rows
          (subst (λ (d : Parts). core_rows.RowsFit d rows) is all))

      -- rows were taken up to a cycle
      taken-by : (n : ℕ) (now : Progress) → now ≡ progress (shape_of it.checked) given (run_of it.checked given n)
          → length now.levels ≡ length (variables it.shape) → HasTaken it.checked given n now
      taken-by n now rows levels = record {
        rows = rows;
        levels = levels ∙ ap (λ (s : Shape). length (variables s)) it.shape_fits;
        registers = taken-registers it.checked given n now rows
            (run-fits it.checked core it.lowered valid given fit n);
      }

      -- the rows of a batch
      made-is : (from to : ℕ) (regs : List BitVector) (rows : List Row) → regs ≡ registers_after core given from
          → rows ≡ run (system_of design) (inputs_of stimulus) regs from to
          → rows ≡ rows-from it.checked core it.lowered valid given fit from to
      made-is from to regs rows are made =
          made ∙ (λ i. run (system_of (is i)) (inputs_of (by i)) (are i) from to)

      -- a batch was taken
      module _ (from to : ℕ) (up : from ≤ to) (regs : List BitVector) (rows : List Row) where
        abbrev AreRows : Type 0
        AreRows = rows ≡ run (system_of design) (inputs_of stimulus) regs from to

        module _ (are : regs ≡ registers_after core given from) (made : AreRows) where
          module _ (old now : Progress) (text : List ℕ) (so_far : HasTaken it.checked given from old) where
            took-rows : Takes it.shape (inputs_of stimulus) rows old now text
                → (now ≡ progress (shape_of it.checked) given (run_of it.checked given to))
                × (edges_to it.checked given to ≡ edges_to it.checked given from ++ text)
            took-rows takes =
                let d = it.checked in
                let first = subst (λ (s : Shape). Takes s (inputs_of stimulus) rows old now text) it.shape_fits takes in
                let next = λ (s : InputVectors). Takes (shape_of d) (inputs_of s) rows old now text in
                let second = subst next by first in
                let same = made-is from to regs rows are made in
                took d core it.lowered valid given fit from to up old now text so_far.rows
                (subst (λ (rs : List Row). Takes (shape_of d) given rs old now text) same second)

            pub batch-written : Takes it.shape (inputs_of stimulus) rows old now text
                → edges_to it.checked given to ≡ edges_to it.checked given from ++ text
            batch-written takes = (took-rows takes).1

            pub batch-taken : Takes it.shape (inputs_of stimulus) rows old now text
                → length now.levels ≡ length (variables it.shape) → HasTaken it.checked given to now
            batch-taken takes levels = taken-by to now (took-rows takes).0 levels

      -- a first batch of no cycles was
      pub first-taken : (regs : List BitVector) (rows : List Row) → regs ≡ first_values design
          → rows ≡ run (system_of design) (inputs_of stimulus) regs 0 0 → (now : Progress) (text : List ℕ)
          → TakesRows it.shape (inputs_of stimulus) [] rows now text
          → length now.levels ≡ length (variables it.shape) → HasTaken it.checked given 0 now
      first-taken regs rows are made now text takes levels =
          let all = made ∙ (λ i. run (system_of (is i)) (inputs_of (by i)) ((are ∙ ap first_values is) i) 0 0) in
          taken-by 0 now
          (took-first it.checked core it.lowered valid given fit it.shape (inputs_of stimulus) rows it.shape_fits
          (ap inputs_of by) all now text takes)
          levels
