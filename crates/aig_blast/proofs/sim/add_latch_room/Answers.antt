use Rattle.std.proofs.Common.{◌++◌, false, replicate, ap, ◌∙◌}
use Rattle.aig_blast.specs.inner.AigSims.{both}
use Rattle.aig_blast.specs.declared.aig.LatchWord.{LatchWord}
use Rattle.aig_blast.proofs.Rooms.{room-step}
use Rattle.aig_blast.proofs.sim.add_latch_room.Goals as goal

pub loop-word-preserved : goal.loop-word-preserved
loop-word-preserved c =
    room-step (λ (word : LatchWord). word.first.width) c.args.words.now c.loop-word.word-index c.word-item.result c.args.values.now.items c.loop-word.values.items c.add_room.new.values.items c.loop-word-test.true c.word-item.is c.loop-word.invariant
    (c.in_ok-add_room.ensures ∙ ap (λ n. c.loop-word.values.items ++ both (replicate n false)) c.width.ensures.width)
