use Rattle.std.proofs.Common.{◌≡◌, map}
use Rattle.std.specs.List.{range_with_len}
use Rattle.lab_lint.specs.Occurrences.{rule_part}
use Rattle.lab_lint.proofs.body.all_occurrences.Given as goal

abbrev pub invariant-loop-rule : goal.invariant-loop-rule
invariant-loop-rule l = l.all ≡ map (λ rule. (rule_part l.fn.design rule).all) (range_with_len 0 l.rule)
