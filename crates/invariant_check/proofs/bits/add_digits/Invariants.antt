use Rattle.std.proofs.Common.{◌≡◌, ◌++◌}
use Rattle.aig_blast.specs.Steps.{digits}
use Rattle.invariant_check.proofs.bits.add_digits.Given as goal

abbrev pub invariant-loop-k : goal.invariant-loop-k
invariant-loop-k l = l.values.items ≡ l.fn.values.items ++ digits l.number l.k
