use Rattle.std.proofs.Common.{◌≡◌, false, replicate}
use Rattle.one_rule.proofs.rows.no_flags.Given as goal

abbrev pub invariant-loop-rule : goal.invariant-loop-rule
invariant-loop-rule l = l.fired ≡ replicate l._rule false
