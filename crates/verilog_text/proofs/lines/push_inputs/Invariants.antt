use Rattle.std.proofs.Common.{◌≡◌, ◌++◌, drop}
use Rattle.verilog_text.specs.Texts.{each, port_line}
use Rattle.verilog_text.proofs.lines.push_inputs.Given as goal

abbrev pub invariant-loop-input : goal.invariant-loop-input
invariant-loop-input l = l.text ++ each port_line (drop l.input-index l.inputs) ≡ l.fn.text ++ each port_line l.inputs
