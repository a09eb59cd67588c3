use Rattle.std.proofs.Common.{[], not, sym, ap, ◌∙◌}
use Rattle.aig_blast.specs.Graphs.{choice, value}
use Rattle.aig_blast.proofs.Gates.{value-negation}
use Rattle.aig_blast.proofs.graph.Graph.where_true.Goals as goal

pub returns-then-found-condition-clause-lit : goal.returns-then-found-condition-clause-lit
returns-then-found-condition-clause-lit c = (c.choice_of-found.ensures []).first

pub returns-then-found-not-clause-lit : goal.returns-then-found-not-clause-lit
returns-then-found-not-clause-lit c = (c.choice_of-found.ensures []).second

pub returns-then-found-not-clause-value : goal.returns-then-found-not-clause-value
returns-then-found-not-clause-value c i holds =
    let g = c.args.self.now in
    let m = c.choice_of-found.result in
    let opposite = ap (value i g) (c.if-found-not.true ∙ c.not.ensures.negation) ∙ value-negation i g c.args.condition ∙ ap not holds in
    sym ((c.choice_of-found.ensures i).value ∙ ap (λ x. choice x (value i g m.first) (value i g m.second)) opposite)
