-- How far a refutation has come, as the checker keeps it. Only contracts of private functions cite it.
use Rattle.std.specs.Prelude.{◌≡◌, ℕ, ◌+◌, [], length, Result, Err}
use Rattle.kw_base.specs.declared.fault.Fault.{Fault}
use Rattle.clause_check.specs.Refutations.{Progress, fault_in}
use Rattle.clause_check.specs.declared.database.Database.{Database}
use Rattle.clause_check.specs.declared.refutation.Checker.{Checker}
use Rattle.clause_check.specs.inner.Databases.{clause_in}

abbrev pub progress_of : Database → Progress
progress_of d = record { there = clause_in d.numbers.items d.places.items d.literals.items; last = d.last; is_refuted = d.is_refuted }

-- there is a value for each variable, and all variables are open
pub record IsReady (variables : ℕ) (checker : Checker) : Type 0 where
  pub database : checker.database.variables ≡ variables
  pub values : length checker.values.values.items ≡ variables + 1
  pub trail : checker.values.trail.items ≡ []

-- the fault is that of the line
abbrev pub IsFaultOf : ℕ → Result Progress ℕ → Fault → Type 0
IsFaultOf line read fault = (number : ℕ) × (fault ≡ fault_in number line) × (read ≡ Err number)
