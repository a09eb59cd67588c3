use Rattle.std.proofs.Common.{◌≡◌, ◌++◌, take}
use Rattle.aiger_text.specs.Printing.{gate_text, laid, one_of}
use Rattle.aiger_text.proofs.print.push_gates.Given as goal

abbrev pub invariant-loop-k : goal.invariant-loop-k
invariant-loop-k l = l.text ≡ l.fn.text ++ laid one_of gate_text l.first (take l.k l.gates)
