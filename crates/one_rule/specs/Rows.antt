-- Which rows fit a design.
use Rattle.std.specs.Prelude.{◌≡◌, List, length}
use Rattle.std.specs.List.{AllByRecursion}
use Rattle.typed_core.specs.declared.design.Parts.{Parts}
use Rattle.typed_core.specs.Widths.{HaveWidths, register_widths}
use Rattle.one_rule.specs.declared.rows.Row.{Row}

-- one value of the declared width for each register, and one flag for each rule
pub record RowFits (design : Parts) (row : Row) : Type 0 where
  pub registers : HaveWidths (register_widths design) row.regs
  pub flags : length row.fired ≡ length design.rules

abbrev pub RowsFit : Parts → List Row → Type 0
RowsFit design rows = AllByRecursion (RowFits design) rows
