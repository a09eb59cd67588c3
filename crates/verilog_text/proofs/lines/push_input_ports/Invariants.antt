use Rattle.std.proofs.Common.{◌≡◌, ◌++◌, drop}
use Rattle.verilog_text.specs.Texts.{each, input_port}
use Rattle.verilog_text.proofs.lines.push_input_ports.Given as goal

abbrev pub invariant-loop-input : goal.invariant-loop-input
invariant-loop-input l = l.text ++ each input_port (drop l.input-index l.inputs) ≡ l.fn.text ++ each input_port l.inputs
