use Rattle.std.proofs.Common.{length, ap, arith}
use Rattle.clause_check.specs.Clauses.{Cnf}
use Rattle.clause_check.proofs.Flat.{length-clauses_by}
use Rattle.clause_check.proofs.formula.Formula.len.Goals as goal

pub returns : goal.returns
returns c =
    let count = length-clauses_by c.self.inside.literals.items c.self.inside.lengths.items in
    let same = ap (λ (f : Cnf). length f.clauses) c.self.view_is in
    omega (arith, count, same, c.len.ensures, c.self.inside.lengths.ok)
