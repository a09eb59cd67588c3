use Rattle.std.proofs.Common.{◌≡◌, ◌++◌, drop}
use Rattle.verilog_text.specs.Texts.{each, next_line}
use Rattle.verilog_text.proofs.lines.push_nexts.Given as goal

abbrev pub invariant-loop-register : goal.invariant-loop-register
invariant-loop-register l =
    l.text ++ each (next_line l.of l.blanks) (drop l.register-index l.registers) ≡ l.fn.text
    ++ each (next_line l.of l.blanks) l.registers
