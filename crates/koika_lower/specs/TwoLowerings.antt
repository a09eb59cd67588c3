-- What two designs of the core have in common that one typed design is lowered to: all but the bodies of their rules, and
-- what these do.
use Rattle.std.specs.Prelude.{◌≡◌, ℕ, List, [], Some, map, slice_get}
use Rattle.kw_bits.specs.BitVector.{BitVector}
use Rattle.typed_core.specs.Evaluation.{Ports, evaluate}
use Rattle.typed_core.specs.Fits.{PortsFit}
use Rattle.typed_core.specs.Valid.{externs_of}
use Rattle.typed_core.specs.Widths.{HaveWidths}
use Rattle.typed_core.specs.declared.design.Parts.{Parts}
use Rattle.typed_core.specs.declared.design.Rule.{Rule}
use Rattle.typed_core.specs.declared.outcome.Stopped.{Stopped}
use Rattle.koika_check.specs.declared.checked.Checked.{Checked}
use Rattle.koika_lower.specs.Lowering.{IsLowered, ends_of, typed_input_widths, register_widths}

-- two rules have the same events and outcome at all ports that fit the registers
abbrev pub EndAlike : Checked → Parts → Parts → Rule → Rule → Type 0
EndAlike d a b x y = (inputs : List BitVector) (ports : Ports Stopped) → HaveWidths (typed_input_widths d) inputs → PortsFit (register_widths d) ports →
    ends_of (evaluate (record { externs = externs_of a; inputs = inputs }) ports x.body [] []) ≡ ends_of (evaluate (record { externs = externs_of b; inputs = inputs }) ports y.body [] [])

pub record DoAlike (d : Checked) (a b : Parts) : Type 0 where
  pub registers : a.regs ≡ b.regs
  pub inputs : a.inputs ≡ b.inputs
  pub tables : a.tables ≡ b.tables
  pub hosts : a.hosts ≡ b.hosts
  pub names : map (λ (r : Rule). r.name) a.rules ≡ map (λ (r : Rule). r.name) b.rules
  pub nodes : a.nodes ≡ b.nodes
  pub rules : (number : ℕ) (x y : Rule) → slice_get a.rules number ≡ Some x → slice_get b.rules number ≡ Some y → EndAlike d a b x y

abbrev pub LoweringsDoAlike : Type 0
LoweringsDoAlike = (d : Checked) (a b : Parts) → IsLowered d a → IsLowered d b → DoAlike d a b
