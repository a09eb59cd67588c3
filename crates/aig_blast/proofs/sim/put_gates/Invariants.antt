use Rattle.std.proofs.Common.{◌≡◌, ◌+◌, ◌*◌, take}
use Rattle.aig_blast.specs.Graphs.{values_after}
use Rattle.aig_blast.specs.inner.AigSims.{both, variable_values}
use Rattle.aig_blast.proofs.sim.put_gates.Given as goal

-- the values so far are those of the first gates
abbrev pub invariant-loop-k : goal.invariant-loop-k
invariant-loop-k l = take (2 * (1 + l.sources + l.k)) l.values ≡ both (values_after (variable_values (take (2 * (1 + l.sources)) l.fn.values)) (take l.k l.gates))
