use Rattle.koika_assert.proofs.MoreBads.{mark-more}
use Rattle.koika_assert.proofs.marks.marked_lines.Goals as goal

pub loop-mark-preserved : goal.loop-mark-preserved
loop-mark-preserved c =
    mark-more c.args.lines.now c.in_ok-flags.flags c.loop-mark.all c.push_bad.new.all c.args.marks.now c.loop-mark.mark-index c.get.result.now c.loop-mark-test.true c.requires.marks c.in_ok-flags.ensures c.get.ensures
    c.loop-mark.invariant c.in_ok-push_bad.ensures
