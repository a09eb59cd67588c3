use Rattle.std.proofs.Common.{◌≡◌, take}
use Rattle.one_rule.proofs.externs.hosts_of.Given as goal

abbrev pub invariant-loop-spec : goal.invariant-loop-spec
invariant-loop-spec g l = l.hosts ≡ take l.spec-index l.specs
