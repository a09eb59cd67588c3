use Rattle.std.proofs.Common.{◌≡◌, map}
use Rattle.std.specs.List.{range_with_len}
use Rattle.one_rule.specs.Cycle.{is_among, numbers}
use Rattle.one_rule.proofs.cycle.flags.Given as goal

abbrev pub invariant-loop-rule : goal.invariant-loop-rule
invariant-loop-rule l = l.fired ≡ map (is_among (numbers l.past)) (range_with_len 0 l.rule)
