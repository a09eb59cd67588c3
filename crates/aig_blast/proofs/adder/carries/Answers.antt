use Rattle.std.proofs.Common.{◌<◌, ◌&&◌, ◌||◌, length, arith}
use Rattle.aig_blast.specs.BitLists.{xor}
use Rattle.aig_blast.specs.Steps.{carry_after}
use Rattle.aig_blast.specs.Graphs.{value}
use Rattle.aig_blast.proofs.Gates.{Makes-by, Makes-kept}
use Rattle.aig_blast.specs.Words.{word}
use Rattle.aig_blast.proofs.Making.{Makes-like, Makes-element}
use Rattle.aig_blast.proofs.StepsMore.{more}
use Rattle.aig_blast.proofs.adder.carries.Goals as goal

pub loop-k-preserved : goal.loop-k-preserved
loop-k-preserved c =
    let g = c.args.graph.now in
    let k = c.loop-k.k in
    let a = c.args.a.now in
    let b = c.args.b.now in
    let m = c.loop-k.invariant in
    let within : k < length a = omega arith in
    let within_b : k < length b = omega arith in
    let half = Makes-by xor (Makes-element k a m.keeps c.requires.a within) (Makes-element k b m.keeps c.requires.b within_b) c.in_ok-half.ensures in
    let both = Makes-by (λ x y. x && y) (Makes-element k a half.keeps c.requires.a within) (Makes-element k b half.keeps c.requires.b within_b) c.in_ok-both.ensures in
    let before = Makes-kept (Makes-kept m c.in_ok-half.ensures.keeps) c.in_ok-both.ensures.keeps in
    let passed = Makes-by (λ x y. x && y) before (Makes-kept half c.in_ok-both.ensures.keeps) c.in_ok-passed.ensures in
    let next = Makes-by (λ x y. x || y) (Makes-kept both c.in_ok-passed.ensures.keeps) passed c.in_ok-carried.ensures in
    Makes-like _ (λ i. more (carry_after (value i g c.args.carry_in) (word i g a) (word i g b)) k) next
