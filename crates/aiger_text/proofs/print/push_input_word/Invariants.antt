use Rattle.std.proofs.Common.{◌≡◌, ◌++◌}
use Rattle.aiger_text.specs.Printing.{input_lines}
use Rattle.aiger_text.proofs.print.push_input_word.Given as goal

abbrev pub invariant-loop-k : goal.invariant-loop-k
invariant-loop-k l = l.text ≡ l.fn.text ++ input_lines l.variable l.k
