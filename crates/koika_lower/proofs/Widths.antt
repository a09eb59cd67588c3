-- The widths of the operators' results, and of types.
use Rattle.std.proofs.Common.{◌≡◌, ℕ, arith}
use Rattle.typed_core.specs.Valid.{IsWidth, TwoHasWidth}
use Rattle.typed_core.specs.declared.action.TwoOp.{TwoOp}
use Rattle.typed_core.specs.declared.action.TwoOp.TheVariants.{And, Or, Xor, Add, Sub, Mul, Sll, Srl, Sra, EqBits, Ult, Ulte, Slt, Slte, Concat}
use Rattle.koika_check.specs.Types.{bits, width_of}
use Rattle.koika_check.specs.declared.checked.Checked.{Checked}

-- operands of 1 to 128 bits have a result of as many
pub two-valid : (o : TwoOp) (left right width : ℕ) → TwoHasWidth o left right width → IsWidth left → IsWidth right → IsWidth width
two-valid And left right width h l r = (omega arith, omega arith)
two-valid Or left right width h l r = (omega arith, omega arith)
two-valid Xor left right width h l r = (omega arith, omega arith)
two-valid Add left right width h l r = (omega arith, omega arith)
two-valid Sub left right width h l r = (omega arith, omega arith)
two-valid Mul left right width h l r = (omega arith, omega arith)
two-valid Sll left right width h l r = (omega arith, omega arith)
two-valid Srl left right width h l r = (omega arith, omega arith)
two-valid Sra left right width h l r = (omega arith, omega arith)
two-valid EqBits left right width h l r = (omega arith, omega arith)
two-valid Ult left right width h l r = (omega arith, omega arith)
two-valid Ulte left right width h l r = (omega arith, omega arith)
two-valid Slt left right width h l r = (omega arith, omega arith)
two-valid Slte left right width h l r = (omega arith, omega arith)
two-valid Concat left right width h l r = (omega arith, omega arith)

-- bits have their width
pub width-bits : (d : Checked) (width : ℕ) → width_of d (bits width) ≡ width
width-bits d width = omega arith
