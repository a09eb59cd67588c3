-- The registers that the first cycles of a run leave.
use Rattle.std.specs.Prelude.{ℕ, List}
use Rattle.kw_bits.specs.BitVector.{BitVector}
use Rattle.typed_core.specs.declared.design.Parts.{Parts}
use Rattle.one_rule.specs.Run.{InputsByCycle, first_values, last_registers, run_of}

abbrev pub registers_after : Parts → InputsByCycle → ℕ → List BitVector
registers_after design inputs n = last_registers (first_values design) (run_of design inputs n)
