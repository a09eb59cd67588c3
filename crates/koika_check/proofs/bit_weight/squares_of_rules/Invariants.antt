use Rattle.std.proofs.Common.{◌≡◌, sum_by, take}
use Rattle.koika_check.specs.BitWeights.{rule_squares}
use Rattle.koika_check.specs.inner.BitWeights.{cap}
use Rattle.koika_check.proofs.bit_weight.squares_of_rules.Given as goal

abbrev pub invariant-loop-rule : goal.invariant-loop-rule
invariant-loop-rule l = l.all ≡ cap (sum_by (rule_squares l.fn.design) (take l.rule-index l.fn.design.rules))
