use Rattle.std.proofs.Common.{◌≡◌, ◌++◌, drop}
use Rattle.verilog_text.specs.Texts.{each, output_line}
use Rattle.verilog_text.proofs.lines.push_outputs.Given as goal

abbrev pub invariant-loop-output : goal.invariant-loop-output
invariant-loop-output l =
    l.text ++ each output_line (drop l.output-index l.outputs) ≡ l.fn.text ++ each output_line l.outputs
