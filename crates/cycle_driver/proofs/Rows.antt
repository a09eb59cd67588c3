-- The rows of a board's run fit its design.
use Rattle.std.proofs.Common.{ℕ, zero, suc, ◌+◌, ◌-◌, false, List, length, subst}
use Rattle.std.specs.List.{AllByRecursion}
use Rattle.std.proofs.lemmas.List.{length-replicate}
use Rattle.kw_bits.specs.BitVector.{BitVector}
use Rattle.typed_core.specs.Widths.{HaveWidths, input_widths, register_widths}
use Rattle.typed_core.specs.Valid.{IsValid}
use Rattle.typed_core.specs.declared.design.Parts.{Parts}
use Rattle.one_rule.specs.Cycle.{cycle, system_of}
use Rattle.one_rule.specs.Rows.{RowFits, RowsFit}
use Rattle.one_rule.specs.Run.{InputsByCycle, rows_after, run}
use Rattle.one_rule.specs.Stimulus.{inputs_of}
use Rattle.one_rule.proofs.Fitting.{cycle_fits}
use Rattle.board_core.specs.Board.{Opening}
use Rattle.board_core.specs.Position.{IsOpening}

rows_after_fit : (design : Parts) → IsValid design → (inputs : InputsByCycle) → ((cycle : ℕ) → HaveWidths (input_widths design) (inputs cycle)) → (count last : ℕ) (regs : List BitVector) → HaveWidths (register_widths design) regs
    → AllByRecursion (RowFits design) (rows_after (system_of design) inputs count last regs)
rows_after_fit design valid inputs fit zero last regs r = tt
rows_after_fit design valid inputs fit (suc count) last regs r =
    let row = cycle_fits design valid (inputs (last + 1)) regs (fit (last + 1)) r in
    (row, rows_after_fit design valid inputs fit count (last + 1) (cycle (system_of design) (inputs (last + 1)) regs).regs row.registers)

pub rows_fit : (o : Opening) → IsOpening o → RowsFit o.design (run (system_of o.design) (inputs_of o.stimulus) o.regs o.from o.to)
rows_fit o opening' = (
  record { registers = opening'.registers; flags = length-replicate (length o.design.rules) false },
  rows_after_fit o.design opening'.design (inputs_of o.stimulus) inputs (o.to - o.from) o.from o.regs opening'.registers,
)
  where
    inputs : (cycle : ℕ) → HaveWidths (input_widths o.design) (inputs_of o.stimulus cycle)
    inputs cycle = subst (λ (widths : List ℕ). HaveWidths widths (inputs_of o.stimulus cycle)) opening'.stimulus (opening'.always cycle)
