use Rattle.std.proofs.Common.{[]}
use Rattle.aig_blast.specs.Graphs.{value, variables}
use Rattle.aig_blast.proofs.PairRules.{graph-values}
use Rattle.aig_blast.proofs.graph.Graph.choice_of.Goals as goal

pub known-a-requires : goal.known-a-requires
known-a-requires c = (c.known-whole.ensures.known []).left

pub known-b-requires : goal.known-b-requires
known-b-requires c = (c.known-whole.ensures.known []).right

pub returns-in-Some : goal.returns-in-Some
returns-in-Some c i =
    let g = c.args.self.now in
    rw (c.known-whole.ensures.lit) at (c.in-Some.ensures (variables g) (value i g) (graph-values i g) (c.known-whole.ensures.known i) (c.known-a.ensures.known i) (c.known-b.ensures.known i) c.known-a.ensures.lit c.known-b.ensures.lit)
