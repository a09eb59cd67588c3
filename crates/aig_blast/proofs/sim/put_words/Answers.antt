use Rattle.std.proofs.Common.{◌+◌, ◌*◌, ◌≤◌, length, sym, subst, arith}
use Rattle.aig_blast.proofs.SimValues.{count-step, room-step, word-step}
use Rattle.aig_blast.proofs.sim.put_words.Goals as goal

pub put_word-requires : goal.put_word-requires
put_word-requires c =
    subst (λ n. 2 * (1 + c.loop-word.count + c.word-item.result.width) ≤ n) (sym c.loop-word.auto.values)
    (room-step c.args.words.now c.args.before c.loop-word.word-index c.loop-word.count (length c.args.values.now) c.word-item.result c.loop-word-test.true c.word-item.is c.loop-word.invariant.count c.requires)

pub loop-word-preserved : goal.loop-word-preserved
loop-word-preserved c =
    let k = c.loop-word.word-index in
    let word = c.word-item.result in
    record {
      count = count-step c.args.words.now c.args.before k c.loop-word.count c.width.result word c.loop-word-test.true c.word-item.is c.width.ensures.width c.loop-word.invariant.count;
      values = word-step c.args.values.now c.loop-word.values c.put_word.new.values c.args.words.now c.args.before k c.loop-word.count c.width.result word c.loop-word-test.true c.word-item.is c.width.ensures.width c.loop-word.invariant.values c.put_word.ensures;
    }

pub overflow_add-count : goal.overflow_add-count
overflow_add-count c =
    omega (
      arith,
      room-step c.args.words.now c.args.before c.loop-word.word-index c.loop-word.count (length c.args.values.now) c.word-item.result c.loop-word-test.true c.word-item.is c.loop-word.invariant.count c.requires,
      c.width.ensures.width,
    )
