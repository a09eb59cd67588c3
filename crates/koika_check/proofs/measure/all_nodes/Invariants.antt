use Rattle.std.proofs.Common.{◌≡◌, List, map, take}
use Rattle.koika_check.specs.Capped as counts
use Rattle.koika_check.specs.Sizes.{Size, node_weights, size}
use Rattle.koika_check.proofs.measure.all_nodes.Given as goal

abbrev pub invariant-loop-node : goal.invariant-loop-node
invariant-loop-node l = (parts : List Size) → l.fn.rules ≡ map counts.capped parts → l.weight ≡ counts.capped (size (node_weights parts (take l.node-index l.nodes)) 0)
