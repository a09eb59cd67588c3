use Rattle.std.proofs.Common.{◌≡◌, ◌++◌, List, length}
use Rattle.clause_check.specs.Clauses.{Clause}
use Rattle.clause_check.specs.Refutations.{begin}
use Rattle.clause_check.specs.Flat.{clauses_by}
use Rattle.clause_check.specs.inner.Progresses.{progress_of}
use Rattle.clause_check.specs.inner.Tokens.{AreWithin}
use Rattle.clause_check.proofs.database.Database.of_formula.Given as goal

abbrev pub invariant-loop-first : goal.invariant-loop-first
invariant-loop-first l =
    record {
      variables : l.database.variables ≡ l.formula.variables;
      literals : AreWithin l.formula.variables l.rest.literals.now;
      begun : (front : List Clause) × (progress_of l.database ≡ begin front) × (front ++ clauses_by l.rest.literals.now l.rest.lengths.now ≡ l.formula.clauses);
    }

abbrev pub decreases-loop-first : goal.decreases-loop-first
decreases-loop-first l = length l.rest.lengths.now
