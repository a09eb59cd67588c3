use Rattle.std.proofs.Common.{◌&&◌, ◌∙◌}
use Rattle.aig_blast.specs.Graphs.{value}
use Rattle.aig_blast.proofs.Gates.{Makes-as, and-comm}
use Rattle.aig_blast.proofs.graph.Graph.and.Goals as goal

pub returns-then-first-second : goal.returns-then-first-second
returns-then-first-second c =
    let g = c.args.self.now in
    Makes-as (λ i. value i g c.args.a && value i g c.args.b) c.simplest-first.ensures.same c.in_ok-gate.ensures

pub returns : goal.returns
returns c =
    let g = c.args.self.now in
    let pair = c.simplest-first.result in
    Makes-as (λ i. value i g c.args.a && value i g c.args.b) (λ i. and-comm (value i g pair.1) (value i g pair.0) ∙ c.simplest-first.ensures.same i) c.in_ok-gate-2.ensures
