use Rattle.std.proofs.Common.{◌≡◌, map, take}
use Rattle.kw_bits.specs.BitVector.{zero_at}
use Rattle.net_graph.specs.Nets.{widths_of}
use Rattle.circuit_eval.proofs.word_sim.zeros.Given as goal

abbrev pub invariant-loop-id : goal.invariant-loop-id
invariant-loop-id l = l.values.items ≡ map zero_at (take l.id (widths_of l.net))
