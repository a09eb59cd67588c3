use Rattle.std.proofs.Common.{◌≡◌, length}
use Rattle.clause_check.specs.Refutations.{dropped}
use Rattle.clause_check.specs.inner.Progresses.{progress_of}
use Rattle.clause_check.proofs.refutation.remove_all.Given as goal

abbrev pub invariant-loop-number : goal.invariant-loop-number
invariant-loop-number l =
    record {
      variables : l.database.variables ≡ l.fn.database.variables;
      same : dropped l.rest (progress_of l.database) ≡ dropped l.numbers (progress_of l.fn.database);
    }

abbrev pub decreases-loop-number : goal.decreases-loop-number
decreases-loop-number l = length l.rest
