use Rattle.std.proofs.Common.{◌<◌, length, arith}
use Rattle.aig_blast.specs.BitLists.{xor, carry}
use Rattle.aig_blast.specs.Steps.{carry_after, sum_after}
use Rattle.aig_blast.specs.Graphs.{value}
use Rattle.aig_blast.specs.Words.{word}
use Rattle.aig_blast.proofs.Making.{Makes-by3, Makes-like, MakesWord-as, MakesWord-push, Makes-element}
use Rattle.aig_blast.proofs.StepsMore.{more}
use Rattle.aig_blast.proofs.adder.ripple.Goals as goal

pub loop-k-preserved : goal.loop-k-preserved
loop-k-preserved c =
    let g = c.args.graph.now in
    let k = c.loop-k.k in
    let a = c.args.a.now in
    let b = c.args.b.now in
    let m = c.loop-k.invariant.sum in
    let within : k < length a = omega arith in
    let within_b : k < length b = omega arith in
    let x = Makes-element k a m.keeps c.requires.a within in
    let y = Makes-element k b m.keeps c.requires.b within_b in
    let sum = Makes-by3 (λ p q r. xor (xor p q) r) x y c.loop-k.invariant.carried c.in_ok-sum.ensures.sum in
    let next = Makes-by3 carry x y c.loop-k.invariant.carried c.in_ok-sum.ensures.carry in
    record {
      sum =
          rw c.in_ok-push.ensures.items
          (MakesWord-as _ (λ i. more (sum_after (value i g c.args.carry_in) (word i g a) (word i g b)) k) (MakesWord-push m c.in_ok-sum.ensures.sum.keeps sum));
      carried = Makes-like _ (λ i. more (carry_after (value i g c.args.carry_in) (word i g a) (word i g b)) k) next;
    }
