use Rattle.clause_check.proofs.Flat.{pushed}
use Rattle.clause_check.proofs.formula.Formula.push.Goals as goal

pub returns-clause-ok : goal.returns-clause-ok
returns-clause-ok c =
    pushed c.self.inside.variables c.self.inside.literals.items c.extend_from_slice.new.self.items c.args.clause.now c.self.inside.lengths.items c.push.new.self.items c.args.self.now c.self.invariant.whole c.in_ok-extend_from_slice.ensures.items c.in-Ok.ensures.items c.self.view_is
