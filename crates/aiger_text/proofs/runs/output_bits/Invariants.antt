use Rattle.std.proofs.Common.{◌≡◌, ◌++◌, drop}
use Rattle.aiger_text.specs.Runs.{output_bits}
use Rattle.aiger_text.proofs.runs.output_bits.Given as goal

abbrev pub invariant-loop-k : goal.invariant-loop-k
invariant-loop-k l = l.outputs.items ++ output_bits l.k (drop l.k l.symbols) (drop l.k l.lits) ≡ output_bits 0 l.symbols l.lits
