use Rattle.std.proofs.Common.{◌≤◌, ◌+◌, List, drop, length}
use Rattle.kw_bits.specs.BitVector.{BitVector}
use Rattle.stim_report.specs.Report.{registers_text}
use Rattle.stim_report.proofs.room.room_of_registers.Given as goal

abbrev pub invariant-loop-register : goal.invariant-loop-register
invariant-loop-register l = (values : List BitVector) →
    length (registers_text l.registers values) ≤ l.room + length (registers_text (drop l.register-index l.registers) (drop l.register-index values))
