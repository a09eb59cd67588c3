-- The rows of a bit-level circuit's run fit what texts tell of it.
use Rattle.std.proofs.Common.{◌≡◌, ℕ, zero, suc, ◌+◌, Bool, false, List, map, sym, subst, arith}
use Rattle.std.proofs.lemmas.List.{length-map}
use Rattle.std.proofs.lemmas.Simd.{map-map}
use Rattle.std.specs.List.{AllByRecursion}
use Rattle.kw_bits.specs.BitVector.{BitVector}
use Rattle.one_rule.specs.Run.{InputsByCycle}
use Rattle.one_rule.specs.declared.rows.Row.{Row}
use Rattle.typed_core.specs.Widths.{HaveWidths}
use Rattle.circuit_eval.specs.Circuits.{AreBits}
use Rattle.aig_blast.specs.AigRun.{first_words, next_words, row_after, rows_after, run_of, values_in}
use Rattle.aig_blast.specs.Aigs.{AigParts, IsAig, latch_widths, variables}
use Rattle.aig_blast.specs.Graphs.{lit_value}
use Rattle.aig_blast.specs.declared.aig.OutputBit.{OutputBit}
use Rattle.aig_blast.proofs.SimValues.{first_words-AreBits, next_words-AreBits}
use Rattle.aiger_text.specs.AigShapes as shapes
use Rattle.stim_report.specs.Shapes.{RowFits, RowsFit}
use Rattle.stim_report.specs.Shapes as told
use Rattle.stim_report.specs.declared.shape.NameWidth.{NameWidth}
use Rattle.koika_top.proofs.CircuitFits.{are-fit}

module _ (a : AigParts) (valid : IsAig a) (inputs : InputsByCycle) where
  abbrev Fits : Row → Type 0
  Fits row = RowFits (map shapes.of_latch a.latches) (map shapes.name_of a.outputs) row

  latches-told : told.widths_of (map shapes.of_latch a.latches) ≡ latch_widths a.latches
  latches-told = map-map (λ (n : NameWidth). n.width) shapes.of_latch a.latches

  row-fits : (regs : List BitVector) (f : OutputBit → Bool) → AreBits regs (latch_widths a.latches) → Fits (record { regs = regs; fired = map f a.outputs })
  row-fits regs f are = record {
    values = subst (λ (ws : List ℕ). HaveWidths ws regs) (sym latches-told) (are-fit regs (latch_widths a.latches) are);
    flags = omega (arith, length-map a.outputs f, length-map a.outputs shapes.name_of);
  }

  next-fits : (given states : List BitVector) → Fits (row_after a given states)
  next-fits given states =
      let values : List Bool = values_in a given states in
      row-fits (next_words a.latches values) (λ (output : OutputBit). lit_value values output.lit) (next_words-AreBits (variables a) a.latches values valid.latches)

  after-fit : (n last : ℕ) (states : List BitVector) → AllByRecursion Fits (rows_after a inputs n last states)
  unfolding rows_after
  after-fit zero last states = tt
  after-fit (suc n) last states =
      let row : Row = row_after a (inputs (last + 1)) states in
      (next-fits (inputs (last + 1)) states, after-fit n (last + 1) row.regs)

  -- the rows of a run on any inputs
  pub aig-rows-fit : (n : ℕ) → RowsFit (shapes.shape_of a) (run_of a inputs n)
  aig-rows-fit n = (
    row-fits (first_words a.latches) (λ (output : OutputBit). false) (first_words-AreBits (variables a) a.latches valid.latches),
    after-fit n 0 (first_words a.latches),
  )
