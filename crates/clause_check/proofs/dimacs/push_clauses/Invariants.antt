use Rattle.std.proofs.Common.{◌≡◌, ◌++◌, flat_map, length}
use Rattle.clause_check.specs.Dimacs.{clause_line}
use Rattle.clause_check.specs.Flat.{clauses_by}
use Rattle.clause_check.proofs.dimacs.push_clauses.Given as goal

abbrev pub invariant-loop-first : goal.invariant-loop-first
invariant-loop-first l =
    l.text ++ flat_map clause_line (clauses_by l.rest.literals.now l.rest.lengths.now)
    ≡ l.fn.text ++ flat_map clause_line (clauses_by l.clauses.literals.now l.clauses.lengths.now)

abbrev pub decreases-loop-first : goal.decreases-loop-first
decreases-loop-first l = length l.rest.lengths.now
