use Rattle.std.proofs.Common.{◌≡◌, sum_by, take}
use Rattle.koika_check.specs.BitWeights.{node_squares}
use Rattle.koika_check.specs.inner.BitWeights.{cap}
use Rattle.koika_check.proofs.bit_weight.squares_of_nodes.Given as goal

abbrev pub invariant-loop-node : goal.invariant-loop-node
invariant-loop-node l = l.squares ≡ cap (sum_by (node_squares l.fn.design) (take l.node-index l.fn.design.nodes))
