use Rattle.std.proofs.Common.{◌≡◌, sum_by, take}
use Rattle.koika_check.specs.BitWeights.{square}
use Rattle.koika_check.specs.inner.BitWeights.{cap}
use Rattle.koika_check.proofs.bit_weight.chain_squares.Given as goal

abbrev pub invariant-loop-operator : goal.invariant-loop-operator
invariant-loop-operator l = l.squares ≡ cap (sum_by (square l.fn.width) (take l.operator-index l.fn.operators))
