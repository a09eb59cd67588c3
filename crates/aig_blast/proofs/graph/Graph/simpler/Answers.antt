use Rattle.std.proofs.Common.{[], List, Bool, ◌∙◌}
use Rattle.aig_blast.specs.Graphs.{value, variables}
use Rattle.aig_blast.specs.inner.Rules.{IsAndOf}
use Rattle.aig_blast.proofs.Gates.{and-comm}
use Rattle.aig_blast.proofs.PairRules.{graph-values}
use Rattle.aig_blast.proofs.graph.Graph.simpler.Goals as goal
use Rattle.aig_blast.proofs.graph.Graph.simpler.Goals.{In-Some, In-Some-simpler_pair}

by_first : (c : In-Some) (i : List Bool) → IsAndOf (variables c.args.self.now) (value i c.args.self.now) c.args.a c.args.b c.in-Some.pair.0 c.in-Some.pair.1
by_first c i =
    let g = c.args.self.now in
    rw (c.known-first.ensures.lit, c.known-second.ensures.lit) at (c.in-Some.ensures (variables g) (value i g) (graph-values i g) (c.known-first.ensures.known i) (c.known-second.ensures.known i))

by_second : (c : In-Some-simpler_pair) (i : List Bool) → IsAndOf (variables c.args.self.now) (value i c.args.self.now) c.args.b c.args.a c.in-Some-simpler_pair.pair.0 c.in-Some-simpler_pair.pair.1
by_second c i =
    let g = c.args.self.now in
    rw (c.known-first.ensures.lit, c.known-second.ensures.lit) at (c.in-Some-simpler_pair.ensures (variables g) (value i g) (graph-values i g) (c.known-second.ensures.known i) (c.known-first.ensures.known i))

pub returns-in-Some : goal.returns-in-Some
returns-in-Some c = record { first = (by_first c []).first; second = (by_first c []).second; same = λ i. (by_first c i).same }

pub returns-in-Some-simpler_pair : goal.returns-in-Some-simpler_pair
returns-in-Some-simpler_pair c = record {
  first = (by_second c []).first;
  second = (by_second c []).second;
  same = λ i. (by_second c i).same ∙ and-comm (value i c.args.self.now c.args.b) (value i c.args.self.now c.args.a);
}
