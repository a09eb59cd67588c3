-- What private functions alone cite of this crate's `Fits`.
use Rattle.std.specs.Prelude.{ℕ, List}
use Rattle.kw_bits.specs.BitVector.{BitVector}
use Rattle.typed_core.specs.Valid.{Declarations}
use Rattle.typed_core.specs.inner.Valid.{IsOperand}
use Rattle.typed_core.specs.Widths.{HaveWidths}
use Rattle.typed_core.specs.declared.action.Action.{Action}

-- and has a value unless the rule ends in it
abbrev pub CanBeOperand : Declarations → Action → List BitVector → Type 0
CanBeOperand d action values = (widths : List ℕ) × HaveWidths widths values × IsOperand d action widths
