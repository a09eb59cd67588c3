use Rattle.std.proofs.Common.{◌≡◌, ℕ, ◌<◌, ◌≤◌, length, slice_index, take}
use Rattle.clause_check.specs.inner.Databases.{clause_in}
use Rattle.clause_check.specs.inner.Progresses.{progress_of}
use Rattle.clause_check.proofs.database.Database.kept.Given as goal

-- the clauses of the first numbers are kept
abbrev pub invariant-loop-k : goal.invariant-loop-k
invariant-loop-k l =
    record {
      variables : l.database.variables ≡ l.self.variables;
      below : (i : ℕ) → l.k ≤ i → i < length l.self.numbers.items → l.database.last < slice_index l.self.numbers.items i;
      under : l.database.last ≤ l.self.last;
      same : (n : ℕ) → (progress_of l.database).there n ≡ clause_in (take l.k l.self.numbers.items) (take l.k l.self.places.items) l.self.literals.items n;
    }
