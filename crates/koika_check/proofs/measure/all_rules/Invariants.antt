use Rattle.std.proofs.Common.{◌≡◌, List, map, take}
use Rattle.koika_check.specs.Capped as counts
use Rattle.koika_check.specs.Sizes.{Size, side_by_side}
use Rattle.koika_check.proofs.measure.all_rules.Given as goal

abbrev pub invariant-loop-rule : goal.invariant-loop-rule
invariant-loop-rule l = (parts : List Size) → l.fn.rules ≡ map counts.capped parts → l.all ≡ counts.capped (side_by_side (take l.rule-index parts))
