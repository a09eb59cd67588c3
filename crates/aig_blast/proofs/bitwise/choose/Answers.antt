use Rattle.std.proofs.Common.{◌<◌, length, arith}
use Rattle.aig_blast.specs.BitLists.{choice}
use Rattle.aig_blast.specs.Graphs.{value}
use Rattle.aig_blast.proofs.Gates.{Makes-given}
use Rattle.aig_blast.specs.Words.{word}
use Rattle.aig_blast.proofs.Making.{Makes-by3, MakesWord-as, MakesWord-push, Makes-element, same_widths, width}
use Rattle.aig_blast.proofs.StepsMore.{choose-more}
use Rattle.aig_blast.proofs.bitwise.choose.Goals as goal

pub loop-k-preserved : goal.loop-k-preserved
loop-k-preserved c =
    let g = c.args.graph.now in
    let k = c.loop-k.k in
    let a = c.args.a.now in
    let b = c.args.b.now in
    let m = c.loop-k.invariant in
    let within : k < length a = omega arith in
    let within_b : k < length b = omega arith in
    let condition = Makes-given c.args.condition m.keeps c.requires.condition in
    let bit = Makes-by3 choice condition (Makes-element k a m.keeps c.requires.a within) (Makes-element k b m.keeps c.requires.b within_b) c.in_ok-lit.ensures in
    rw c.in_ok-push.ensures.items
    (MakesWord-as _ (λ i. choose-more (value i g c.args.condition) (word i g a) (word i g b) k (rw width within) (same_widths i g a b c.requires.width)) (MakesWord-push m c.in_ok-lit.ensures.keeps bit))
