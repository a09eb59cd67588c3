-- What texts show of a system, its shape, and which rows of a run fit it.
use Rattle.std.specs.Prelude.{◌≡◌, ℕ, ◌≤◌, List, length, map, take}
use Rattle.std.specs.List.{AllByRecursion}
use Rattle.typed_core.specs.Widths.{HaveWidths}
use Rattle.typed_core.specs.declared.design.InputDecl.{InputDecl}
use Rattle.typed_core.specs.declared.design.RegDecl.{RegDecl}
use Rattle.typed_core.specs.declared.design.Rule.{Rule}
use Rattle.typed_core.specs.declared.design.Parts.{Parts}
use Rattle.one_rule.specs.declared.rows.Row.{Row}
use Rattle.stim_report.specs.declared.shape.NameWidth.{NameWidth}
use Rattle.stim_report.specs.declared.shape.Shape.{Shape}

-- an input, a register and a rule by name
abbrev pub of_input : InputDecl → NameWidth
of_input decl = record { name = decl.name; width = decl.width }

-- a register's name and width
abbrev pub of_register : RegDecl → NameWidth
of_register decl = record { name = decl.name; width = decl.width }

-- a rule's name
abbrev pub name_of : Rule → List ℕ
name_of rule = rule.name

-- the shape of a design
abbrev pub shape_of : Parts → Shape
shape_of design = record { inputs = map of_input design.inputs; registers = map of_register design.regs; rules = map name_of design.rules }

-- the widths of what is named
abbrev pub widths_of : List NameWidth → List ℕ
widths_of named = map (λ (one : NameWidth). one.width) named

-- one value of its width for each register, and at least one flag for each rule; reports and summaries show the first ones alone
pub record RowFits (registers : List NameWidth) (rules : List (List ℕ)) (row : Row) : Type 0 where
  pub values : HaveWidths (widths_of registers) row.regs
  pub flags : length rules ≤ length row.fired

-- rows that reports and summaries of a system of this shape can show
abbrev pub RowsFit : Shape → List Row → Type 0
RowsFit shape rows = AllByRecursion (RowFits shape.registers shape.rules) rows

-- one value of its width for each register, and one flag for each rule
pub record RowMatches (registers : List NameWidth) (rules : List (List ℕ)) (row : Row) : Type 0 where
  pub values : HaveWidths (widths_of registers) row.regs
  pub flags : length row.fired ≡ length rules

-- rows of a system of this shape
abbrev pub RowsMatch : Shape → List Row → Type 0
RowsMatch shape rows = AllByRecursion (RowMatches shape.registers shape.rules) rows

-- a row without the flags beyond this many rules
abbrev pub restricted : ℕ → Row → Row
restricted rules row = record { regs = row.regs; fired = take rules row.fired }
