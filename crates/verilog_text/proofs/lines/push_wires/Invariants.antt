use Rattle.std.proofs.Common.{◌≡◌, ◌++◌, drop}
use Rattle.verilog_text.specs.Texts.{wire_lines}
use Rattle.verilog_text.proofs.lines.push_wires.Given as goal

abbrev pub invariant-loop-number : goal.invariant-loop-number
invariant-loop-number l =
    l.text ++ wire_lines l.of l.number (drop l.number l.wires) ≡ l.fn.text ++ wire_lines l.of 0 l.wires
