use Rattle.std.proofs.Common.{◌≡◌, ◌++◌, drop}
use Rattle.verilog_text.specs.Texts.{each, assign_line}
use Rattle.verilog_text.proofs.lines.push_assigns.Given as goal

abbrev pub invariant-loop-output : goal.invariant-loop-output
invariant-loop-output l =
    l.text ++ each (assign_line l.of) (drop l.output-index l.outputs) ≡ l.fn.text ++ each (assign_line l.of) l.outputs
