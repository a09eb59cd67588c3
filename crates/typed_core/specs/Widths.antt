-- Lists of values that have the widths they are declared with: registers, inputs, bound names.
use Rattle.std.specs.Prelude.{◌≡◌, ℕ, List, length, map, slice_get, slice_index_or, Some}
use Rattle.kw_bits.specs.BitVector.{BitVector}
use Rattle.kw_bits.specs.Laws.{HasWidth}
use Rattle.typed_core.specs.Evaluation.{unit}
use Rattle.typed_core.specs.declared.design.InputDecl.{InputDecl}
use Rattle.typed_core.specs.declared.design.RegDecl.{RegDecl}
use Rattle.typed_core.specs.declared.design.Parts.{Parts}

-- there is one value of its width for each of the widths
pub record HaveWidths (widths : List ℕ) (values : List BitVector) : Type 0 where
  pub count : length values ≡ length widths
  pub each : (number width : ℕ) → slice_get widths number ≡ Some width → HasWidth (slice_index_or values number unit) width

-- the widths of a design's registers, and those of its inputs
abbrev pub register_widths : Parts → List ℕ
register_widths design = map (λ (decl : RegDecl). decl.width) design.regs

-- the widths of a design's inputs
abbrev pub input_widths : Parts → List ℕ
input_widths design = map (λ (decl : InputDecl). decl.width) design.inputs
