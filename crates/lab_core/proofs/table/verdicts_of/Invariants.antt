use Rattle.std.proofs.Common.{◌≡◌, drop}
use Rattle.lab_core.specs.inner.Counting.{verdicts_of}
use Rattle.lab_core.proofs.table.verdicts_of.Given as goal

-- the verdicts by the trials from here on
abbrev pub invariant-loop-number : goal.invariant-loop-number
invariant-loop-number l = l.verdicts.items ≡ verdicts_of l.rules (drop l.number l.tried)
