use Rattle.std.proofs.Common.{◌≡◌, ◌++◌, false, replicate}
use Rattle.aig_blast.specs.inner.AigSims.{both}
use Rattle.aig_blast.proofs.sim.add_room.Given as goal

abbrev pub invariant-loop-place : goal.invariant-loop-place
invariant-loop-place l = l.values.items ≡ l.fn.values.items ++ both (replicate l._place false)
