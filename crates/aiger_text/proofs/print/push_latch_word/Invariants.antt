use Rattle.std.proofs.Common.{◌≡◌, ◌++◌}
use Rattle.aiger_text.specs.Printing.{latch_line, texts_below}
use Rattle.aiger_text.proofs.print.push_latch_word.Given as goal

abbrev pub invariant-loop-k : goal.invariant-loop-k
invariant-loop-k l = l.text ≡ l.fn.text ++ texts_below (latch_line l.variable l.number l.nexts) l.k
