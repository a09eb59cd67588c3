use Rattle.std.proofs.Common.{◌&&◌}
use Rattle.aig_blast.specs.Graphs.{xor, value}
use Rattle.aig_blast.proofs.Gates.{Makes-as, Makes-given, Makes-kept, Makes-not, Makes-by, xor-by_and}
use Rattle.aig_blast.proofs.graph.Graph.xor.Goals as goal

pub returns : goal.returns
returns c =
    let g = c.args.self.now in
    let both = c.in_ok-both.ensures in
    let a = Makes-given c.args.a both.keeps c.requires.a in
    let b = Makes-given c.args.b both.keeps c.requires.b in
    let neither = Makes-by (λ x y. x && y) (Makes-not c.not.ensures.negation a) (Makes-not c.not-2.ensures.negation b) c.in_ok-neither.ensures in
    let both_kept = Makes-kept both c.in_ok-neither.ensures.keeps in
    let one = Makes-by (λ x y. x && y) (Makes-not c.not-3.ensures.negation both_kept) (Makes-not c.not-4.ensures.negation neither) c.in_ok-one.ensures in
    Makes-as (λ i. xor (value i g c.args.a) (value i g c.args.b)) (λ i. xor-by_and (value i g c.args.a) (value i g c.args.b)) one
