use Rattle.std.proofs.Common.{◌≡◌, map, take}
use Rattle.btor2_model.specs.Run.{Values}
use Rattle.btor2_model.specs.inner.SlowRun.{Knows}
use Rattle.btor2_model.proofs.rows.values_of.Given as goal

abbrev pub invariant-loop-id : goal.invariant-loop-id
invariant-loop-id l = (all : Values) → Knows l.values all → l.found ≡ map all (take l.id-index l.ids)
