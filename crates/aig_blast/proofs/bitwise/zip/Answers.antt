use Rattle.std.proofs.Common.{◌<◌, length, arith}
use Rattle.aig_blast.proofs.StepsMore.{zip_with-more}
use Rattle.aig_blast.proofs.Gates.{Makes-by}
use Rattle.aig_blast.specs.Words.{pair_value, word}
use Rattle.aig_blast.proofs.Making.{MakesWord-as, MakesWord-push, Makes-element, same_widths, width}
use Rattle.aig_blast.proofs.bitwise.zip.Goals as goal

pub loop-k-preserved : goal.loop-k-preserved
loop-k-preserved c =
    let g = c.args.graph.now in
    let k = c.loop-k.k in
    let a = c.args.a.now in
    let b = c.args.b.now in
    let f = pair_value c.args.gate in
    let m = c.loop-k.invariant in
    let within : k < length a = omega arith in
    let within_b : k < length b = omega arith in
    let bit = Makes-by f (Makes-element k a m.keeps c.requires.a within) (Makes-element k b m.keeps c.requires.b within_b) c.in_ok-lit.ensures in
    rw c.in_ok-push.ensures.items
    (MakesWord-as _ (λ i. zip_with-more f (word i g a) (word i g b) k (rw width within) (same_widths i g a b c.requires.width)) (MakesWord-push m c.in_ok-lit.ensures.keeps bit))
