use Rattle.std.proofs.Common.{◌≡◌, replicate, false}
use Rattle.lab_lint.proofs.order.flags.Given as goal

abbrev pub invariant-loop : goal.invariant-loop
invariant-loop l = l.flags ≡ replicate l.counter false
