-- The rows of a typed design's run.
use Rattle.std.proofs.Common.{◌≡◌, ℕ, List, sym, subst}
use Rattle.one_rule.specs.Run as core_run
use Rattle.one_rule.specs.Stimulus.{AlwaysFits, InputVectors, inputs_of}
use Rattle.one_rule.proofs.Runs.{runs_fit}
use Rattle.stim_report.specs.Shapes.{RowsFit}
use Rattle.stim_report.proofs.ShapesOfDesigns.{rows_fit}
use Rattle.typed_core.specs.Valid.{IsValid}
use Rattle.typed_core.specs.Widths.{HaveWidths}
use Rattle.typed_core.specs.declared.design.Parts.{Parts}
use Rattle.koika_check.specs.declared.checked.Checked.{Checked}
use Rattle.koika_lower.specs.Lowering.{IsLowered, typed_input_widths}
use Rattle.koika_top.specs.inner.Engines.{AreRows}
use Rattle.front_end.specs.Sources.{shape_of}
use Rattle.front_end.specs.Systems.{first_values, run_of, system_of}
use Rattle.front_end.proofs.LoweredRuns.{inputs-wide, registers-named, rules-named, run-same}
use Rattle.koika_top.proofs.PlainRows.{are-rows}

-- a typed design's run is one
pub typed-rows : (d : Checked) (stimulus : InputVectors) → AreRows (run_of d (inputs_of stimulus))
typed-rows d stimulus = are-rows (system_of d) (inputs_of stimulus) (first_values d)

module _ (d : Checked) (design : Parts) (lowered : IsLowered d design) (valid : IsValid design) (stimulus : InputVectors) (fits : stimulus.widths ≡ typed_input_widths d) (always : AlwaysFits stimulus) where
  inputs-fit : (k : ℕ) → HaveWidths (typed_input_widths d) (inputs_of stimulus k)
  inputs-fit k = subst (λ (ws : List ℕ). HaveWidths ws (inputs_of stimulus k)) fits (always k)

  -- and the run of what it is lowered to
  pub same-rows : (n : ℕ) → core_run.run_of design (inputs_of stimulus) n ≡ run_of d (inputs_of stimulus) n
  same-rows n = run-same d design lowered valid (inputs_of stimulus) inputs-fit n

  -- its rows fit what texts tell of it
  pub typed-fit : (n : ℕ) → RowsFit (shape_of d) (run_of d (inputs_of stimulus) n)
  typed-fit n =
      subst (RowsFit (shape_of d)) (same-rows n)
      (rows_fit design (shape_of d).registers (shape_of d).rules (registers-named d design lowered) (rules-named d design lowered) (core_run.run_of design (inputs_of stimulus) n)
      (runs_fit design (inputs_of stimulus) n valid (λ k low high. subst (λ (ws : List ℕ). HaveWidths ws (inputs_of stimulus k)) (sym (inputs-wide d design lowered)) (inputs-fit k))))
