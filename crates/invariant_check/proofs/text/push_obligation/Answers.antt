use Rattle.invariant_check.proofs.Bounds.{clauses_within}
use Rattle.invariant_check.proofs.text.push_obligation.Goals as goal

pub returns-clause-within : goal.returns-clause-within
returns-clause-within c =
    let formula = c.args.formula.now in
    let clauses = c.clauses-clauses.result in
    clauses_within formula.variables clauses.literals.now clauses.lengths.now formula.clauses clauses.whole
    c.clauses-clauses.ensures.clauses c.clauses-clauses.ensures.literals
