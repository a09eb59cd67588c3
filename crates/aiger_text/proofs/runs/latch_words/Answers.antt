use Rattle.std.proofs.Common.{arith}
use Rattle.aiger_text.proofs.Running.{latch_words-more, widths-left}
use Rattle.aiger_text.proofs.runs.latch_words.Goals as goal

pub loop-word-preserved : goal.loop-word-preserved
loop-word-preserved c =
    let k = c.loop-word.word-index in
    let left = widths-left c.args.words.now k c.word-item.result c.loop-word-test.true c.word-item.is in
    record {
      nexts = omega (arith, left, c.split_at.ensures.back_len);
      resets = omega (arith, left, c.split_at-in-loop-word.ensures.back_len);
      so_far =
          latch_words-more c.args.words.now k c.word-item.result c.loop-word.literals.now c.split_at.result.0.now c.split_at.result.1.now c.loop-word.values.now c.split_at-in-loop-word.result.0.now
          c.split_at-in-loop-word.result.1.now c.in_ok-latch_word.field-0 c.loop-word.latches.items c.push.new.self.items _ c.loop-word-test.true c.word-item.is c.split_at.ensures.front c.split_at.ensures.back
          c.split_at-in-loop-word.ensures.front c.split_at-in-loop-word.ensures.back c.in_ok-latch_word.ensures c.in_ok-push.ensures.items c.loop-word.invariant.so_far;
    }
