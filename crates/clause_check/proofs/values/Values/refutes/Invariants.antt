use Rattle.std.proofs.Common.{◌≡◌, List, length}
use Rattle.clause_check.specs.Propagation.{refutes}
use Rattle.clause_check.specs.declared.literal.Literal.{Literal}
use Rattle.clause_check.specs.inner.Progresses.{progress_of}
use Rattle.clause_check.specs.inner.Values.{Agrees}
use Rattle.clause_check.proofs.values.Values.refutes.Given as goal

abbrev pub invariant-loop-hint : goal.invariant-loop-hint
invariant-loop-hint l =
    record {
      count : length l.self.values.items ≡ length l.fn.self.values.items;
      same : (trues : List Literal) → Agrees l.fn.self.values.items trues
          → (now : List Literal) × Agrees l.self.values.items now × (refutes (progress_of l.database).there now l.rest ≡ refutes (progress_of l.database).there trues l.hints);
    }

abbrev pub decreases-loop-hint : goal.decreases-loop-hint
decreases-loop-hint l = length l.rest
