use Rattle.std.proofs.Common.{◌≡◌, ◌++◌, drop}
use Rattle.verilog_text.specs.Texts.{each, register_line}
use Rattle.verilog_text.proofs.lines.push_registers.Given as goal

abbrev pub invariant-loop-register : goal.invariant-loop-register
invariant-loop-register l =
    l.text ++ each register_line (drop l.register-index l.registers) ≡ l.fn.text ++ each register_line l.registers
