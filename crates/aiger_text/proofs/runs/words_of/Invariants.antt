use Rattle.std.proofs.Common.{◌≡◌, ◌+◌, ◌++◌, drop}
use Rattle.aiger_text.specs.Runs.{words_from, words_of_bits}
use Rattle.aiger_text.specs.inner.RunsSoFar.{run_of}
use Rattle.aiger_text.proofs.runs.words_of.Given as goal

abbrev pub invariant-loop-k : goal.invariant-loop-k
invariant-loop-k l = l.words.items ++ words_from l.kind (l.k + 1) (run_of l.run) (drop l.k l.others) ≡ words_of_bits l.kind l.symbols
