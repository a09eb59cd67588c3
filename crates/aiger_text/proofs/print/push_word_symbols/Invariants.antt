use Rattle.std.proofs.Common.{◌≡◌, ◌++◌}
use Rattle.aiger_text.specs.Printing.{word_symbols}
use Rattle.aiger_text.proofs.print.push_word_symbols.Given as goal

abbrev pub invariant-loop-k : goal.invariant-loop-k
invariant-loop-k l = l.text ≡ l.fn.text ++ word_symbols l.kind l.index l.name l.k
