use Rattle.std.proofs.Common.{◌≡◌, replicate, []}
use Rattle.lab_core.specs.Numbers.{rule_numbers}
use Rattle.lab_core.proofs.profile.no_counts.Given as goal

abbrev pub invariant-loop : goal.invariant-loop
invariant-loop l = l.counts.items ≡ replicate l.counter (rule_numbers [])
