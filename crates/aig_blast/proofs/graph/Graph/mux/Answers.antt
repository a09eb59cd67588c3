use Rattle.std.proofs.Common.{ap, ◌∙◌}
use Rattle.aig_blast.specs.Graphs.{choice, value}
use Rattle.aig_blast.proofs.Gates.{Makes-as, value-negation}
use Rattle.aig_blast.proofs.PairRules.{choice-under}
use Rattle.aig_blast.proofs.graph.Graph.mux.Goals as goal

pub returns : goal.returns
returns c =
    let g = c.args.self.now in
    Makes-as (λ i. choice (value i g c.args.condition) (value i g c.args.a) (value i g c.args.b))
    (λ i. choice-under (value i g c.args.condition) (value i g c.args.a) (value i g c.args.b) (value i g c.where_true-first.result) (value i g c.where_true-second.result)
    (c.where_true-first.ensures.value i) (λ h. c.where_true-second.ensures.value i (ap (value i g) c.not.ensures.negation ∙ value-negation i g c.args.condition ∙ h)))
    c.in_ok-chosen.ensures
