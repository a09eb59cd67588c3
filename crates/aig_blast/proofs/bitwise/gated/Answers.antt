use Rattle.std.proofs.Common.{◌<◌, ◌&&◌, false, length, sym, arith}
use Rattle.std.proofs.lemmas.List.{map_more}
use Rattle.aig_blast.specs.Graphs.{value}
use Rattle.aig_blast.proofs.Gates.{Makes-given, Makes-by}
use Rattle.aig_blast.specs.Words.{word}
use Rattle.aig_blast.proofs.Making.{MakesWord-as, MakesWord-push, Makes-element, width}
use Rattle.aig_blast.proofs.bitwise.gated.Goals as goal

pub loop-x-preserved : goal.loop-x-preserved
loop-x-preserved c =
    let g = c.args.graph.now in
    let k = c.loop-x.x-index in
    let a = c.args.a.now in
    let m = c.loop-x.invariant in
    let within : k < length a = omega arith in
    let bit = Makes-by (λ x y. x && y) (Makes-element k a m.keeps c.requires.a within) (Makes-given c.args.condition m.keeps c.requires.condition) c.in_ok-lit.ensures in
    rw c.in_ok-push.ensures.items
    (MakesWord-as _ (λ i. sym (map_more (λ x. x && value i g c.args.condition) (word i g a) k false (rw width within))) (MakesWord-push m c.in_ok-lit.ensures.keeps bit))
