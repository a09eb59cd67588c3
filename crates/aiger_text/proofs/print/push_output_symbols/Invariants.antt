use Rattle.std.proofs.Common.{◌≡◌, ◌++◌, take}
use Rattle.aiger_text.specs.Printing.{laid, one_of, output_symbol}
use Rattle.aiger_text.proofs.print.push_output_symbols.Given as goal

abbrev pub invariant-loop-k : goal.invariant-loop-k
invariant-loop-k l = l.text ≡ l.fn.text ++ laid one_of output_symbol 0 (take l.k l.outputs)
