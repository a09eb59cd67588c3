use Rattle.std.proofs.Common.{◌≡◌, map, drop}
use Rattle.aig_blast.specs.BitLists.{number}
use Rattle.aig_blast.specs.Graphs.{lit_value}
use Rattle.aig_blast.specs.inner.AigSims.{variable_values}
use Rattle.aig_blast.proofs.sim.word_value.Given as goal

-- the number of the bits from here on
abbrev pub invariant-loop-k : goal.invariant-loop-k
invariant-loop-k l = l.number ≡ number (drop l.k (map (lit_value (variable_values l.values)) l.lits))
