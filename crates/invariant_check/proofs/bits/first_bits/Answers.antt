use Rattle.invariant_check.proofs.Reading.{firsts_more}
use Rattle.invariant_check.proofs.bits.first_bits.Goals as goal

pub loop-word-preserved : goal.loop-word-preserved
loop-word-preserved c =
    firsts_more c.args.latches.now c.loop-word.word-index c.word-item.result c.loop-word.values.items
    c.add_digits.new.values.items c.loop-word-test.true c.word-item.is c.loop-word.invariant
    c.in_ok-add_digits.ensures
