use Rattle.std.proofs.Common.{◌≡◌, take}
use Rattle.one_rule.proofs.externs.tables_of.Given as goal

abbrev pub invariant-loop-spec : goal.invariant-loop-spec
invariant-loop-spec l = l.tables ≡ take l.spec-index l.specs
