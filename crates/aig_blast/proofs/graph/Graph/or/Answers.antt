use Rattle.std.proofs.Common.{◌&&◌, ◌||◌}
use Rattle.aig_blast.specs.Graphs.{value}
use Rattle.aig_blast.proofs.Values.{Keeps-refl}
use Rattle.aig_blast.proofs.Gates.{Makes-as, Makes-given, Makes-not, Makes-by, or-by_and}
use Rattle.aig_blast.proofs.graph.Graph.or.Goals as goal

pub returns : goal.returns
returns c =
    let g = c.args.self.now in
    let a = Makes-given c.args.a (Keeps-refl g) c.requires.a in
    let b = Makes-given c.args.b (Keeps-refl g) c.requires.b in
    let neither = Makes-by (λ x y. x && y) (Makes-not c.not.ensures.negation a) (Makes-not c.not-2.ensures.negation b) c.in_ok-neither.ensures in
    Makes-as (λ i. value i g c.args.a || value i g c.args.b) (λ i. or-by_and (value i g c.args.a) (value i g c.args.b)) (Makes-not c.not-3.ensures.negation neither)
