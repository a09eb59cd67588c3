-- What holds of the run of every module.
use Rattle.std.specs.Prelude.{◌≡◌, true, List, ℕ, Some}
use Rattle.kw_bits.specs.BitVector.{BitVector}
use Rattle.verilog_text.specs.Modules.{AreNamed, IsLegal}
use Rattle.verilog_text.specs.Runs.{first_values, row_after}
use Rattle.verilog_text.specs.Texts.{text_of}
use Rattle.verilog_text.specs.declared.module.Module.{Module}

-- a cycle in which the reset is 1 leaves the first values
abbrev pub LeaveFirstValues : Type 0
LeaveFirstValues = (m : Module) (name : List ℕ) (inputs registers : List BitVector) → m.reset ≡ Some name
    → (row_after m true inputs registers).regs ≡ first_values m

-- the text is that of this module, which is legal and whose names differ
pub record IsWrittenAs (m : Module) (text : List ℕ) : Type 0 where
  pub printed : text ≡ text_of m
  pub legal : IsLegal m
  pub named : AreNamed m

-- a text is that of one module at most: of no other ports, registers, first values, wires and assignments
abbrev pub HaveOneModule : Type 0
HaveOneModule = (text : List ℕ) (a b : Module) → IsWrittenAs a text → IsWrittenAs b text → a ≡ b
