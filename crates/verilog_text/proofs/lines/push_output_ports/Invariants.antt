use Rattle.std.proofs.Common.{◌≡◌, ◌++◌, drop}
use Rattle.verilog_text.specs.Texts.{each, output_port}
use Rattle.verilog_text.proofs.lines.push_output_ports.Given as goal

abbrev pub invariant-loop-output : goal.invariant-loop-output
invariant-loop-output l =
    l.text ++ each output_port (drop l.output-index l.outputs) ≡ l.fn.text ++ each output_port l.outputs
