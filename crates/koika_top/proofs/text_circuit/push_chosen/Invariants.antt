use Rattle.std.proofs.Common.{◌≡◌, ◌++◌, take}
use Rattle.koika_top.specs.inner.CircuitRuns.{chosen}
use Rattle.koika_top.proofs.text_circuit.push_chosen.Given as goal

abbrev pub invariant-loop-number : goal.invariant-loop-number
invariant-loop-number l = l.all ≡ l.fn.all ++ chosen (take l.number l.mask) (take l.number l.wires)
