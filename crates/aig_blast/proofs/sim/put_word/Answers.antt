use Rattle.aig_blast.proofs.SimValues.{bit-step, rest-step}
use Rattle.aig_blast.proofs.sim.put_word.Goals as goal

pub loop-k-preserved : goal.loop-k-preserved
loop-k-preserved c =
    let word = c.args.word in
    record {
      rest = rest-step word.number c.loop-k.k c.loop-k.rest c.loop-k.invariant.rest;
      values = bit-step c.args.values.now c.loop-k.values c.put_value.new.values word.number c.args.before c.loop-k.k c.loop-k.rest c.loop-k.invariant.rest c.loop-k.invariant.values c.put_value.ensures;
    }
