use Rattle.std.proofs.Common.{◌≡◌, replicate, None}
use Rattle.lab_core.proofs.table.no_verdicts.Given as goal

abbrev pub invariant-loop : goal.invariant-loop
invariant-loop l = l.verdicts.items ≡ replicate l.counter None
