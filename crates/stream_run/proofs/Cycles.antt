-- A cycle of a lowered design is one of the typed design.
use Rattle.std.proofs.Common.{◌≡◌, ℕ, List, [], ◌∷◌, ◌++◌, sym, ap, subst, ◌∙◌, append_assoc, append-nil, drop, length}
use Rattle.kw_bits.specs.BitVector.{BitVector}
use Rattle.typed_core.specs.Valid.{IsValid}
use Rattle.typed_core.specs.Widths as core
use Rattle.typed_core.specs.Widths.{HaveWidths}
use Rattle.typed_core.specs.declared.design.Parts.{Parts}
use Rattle.one_rule.specs.Cycle as core_cycle
use Rattle.one_rule.specs.Cycle.{cycle}
use Rattle.one_rule.specs.Rows as core_rows
use Rattle.one_rule.specs.Run.{opening, run}
use Rattle.one_rule.specs.Stimulus.{AlwaysFits, InputVectors, inputs_of}
use Rattle.one_rule.specs.declared.rows.Row.{Row}
use Rattle.one_rule.proofs.Alike.{same_runs}
use Rattle.koika_check.specs.declared.checked.Checked.{Checked}
use Rattle.koika_lower.specs.Lowering.{IsLowered, typed_input_widths, register_widths}
use Rattle.stim_report.specs.Shapes.{RowsFit}
use Rattle.stim_report.proofs.ShapesOfDesigns.{rows_fit}
use Rattle.front_end.specs.Sources.{shape_of}
use Rattle.front_end.specs.Systems.{system_of}
use Rattle.front_end.proofs.LoweredRuns.{inputs-wide, registers-named, registers-wide, rules-named, same-alone}

module _ (d : Checked) (design : Parts) (lowered : IsLowered d design) where
  -- a stimulus for the typed design is one for what it is lowered to
  pub stimulus-wide : (widths : List ℕ) → widths ≡ typed_input_widths d → widths ≡ core.input_widths design
  stimulus-wide widths fits = fits ∙ sym (inputs-wide d design lowered)

  -- the two rows of one cycle
  pub one-cycle : IsValid design → (stimulus : InputVectors) → stimulus.widths ≡ typed_input_widths d → AlwaysFits stimulus → (regs : List BitVector) → HaveWidths (core.register_widths design) regs
      → run (core_cycle.system_of design) (inputs_of stimulus) regs 0 1 ≡ opening (system_of d).rules regs ∷ cycle (system_of d) (inputs_of stimulus 1) regs ∷ []
  one-cycle valid stimulus fits always regs held =
      same_runs (typed_input_widths d) (register_widths d) (core_cycle.system_of design) (system_of d) (inputs_of stimulus) regs 0 1 (same-alone d design lowered valid)
      (λ (k : ℕ). subst (λ (ws : List ℕ). HaveWidths ws (inputs_of stimulus k)) fits (always k))
      (subst (λ (ws : List ℕ). HaveWidths ws regs) (registers-wide d design lowered) held)

  -- rows that fit the one fit the other
  pub rows-shown : (rows : List Row) → core_rows.RowsFit design rows → RowsFit (shape_of d) rows
  rows-shown rows fit = rows_fit design (shape_of d).registers (shape_of d).rules (registers-named d design lowered) (rules-named d design lowered) rows fit

-- the registers of the second of two rows
pub second-fits : (design : Parts) (rows : List Row) (first next : Row) → core_rows.RowsFit design rows → rows ≡ first ∷ next ∷ [] → HaveWidths (core.register_widths design) next.regs
second-fits design rows first next fit is = let both = subst (core_rows.RowsFit design) is fit in both.1.0.registers
