use Rattle.std.proofs.Common.{◌≡◌, ◌++◌, drop}
use Rattle.verilog_text.specs.Texts.{each, register_port}
use Rattle.verilog_text.proofs.lines.push_register_ports.Given as goal

abbrev pub invariant-loop-register : goal.invariant-loop-register
invariant-loop-register l =
    l.text ++ each register_port (drop l.register-index l.registers) ≡ l.fn.text ++ each register_port l.registers
