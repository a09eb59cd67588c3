use Rattle.std.proofs.Common.{◌≡◌, ◌++◌, false, replicate, take}
use Rattle.std.specs.Prelude.{sum}
use Rattle.aig_blast.specs.Aigs.{latch_widths}
use Rattle.aig_blast.specs.inner.AigSims.{both}
use Rattle.aig_blast.proofs.sim.add_latch_room.Given as goal

abbrev pub invariant-loop-word : goal.invariant-loop-word
invariant-loop-word l = l.values.items ≡ l.fn.values.items ++ both (replicate (sum (latch_widths (take l.word-index l.words))) false)
