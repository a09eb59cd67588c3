use Rattle.std.proofs.Common.{◌≡◌, ◌++◌, take}
use Rattle.std.specs.List.{flat_map}
use Rattle.aiger_text.specs.Printing.{output_text}
use Rattle.aiger_text.proofs.print.push_outputs.Given as goal

abbrev pub invariant-loop-output : goal.invariant-loop-output
invariant-loop-output l = l.text ≡ l.fn.text ++ flat_map output_text (take l.output-index l.outputs)
