-- What is read of an invariant so far. Only contracts of private functions cite it.
use Rattle.std.specs.Prelude.{◌≡◌, ℕ, List, ◌++◌, Bool, true, false, Option, None, Some, Result, Ok}
use Rattle.kw_base.specs.declared.fault.Fault.{Fault}
use Rattle.clause_check.specs.Clauses.{Assignment, Clause}
use Rattle.invariant_check.specs.Invariants.{Numbered, after, false_line, only_clauses}

-- the literals of a line with some before them, and clauses with some before them
abbrev pub after_literals : Clause → Result Clause Fault → Result Clause Fault
after_literals front read = after read (λ (literals : Clause). Ok (front ++ literals))

abbrev pub after_clauses : List Numbered → Result (List Numbered) Fault → Result (List Numbered) Fault
after_clauses front read = after read (λ (clauses : List Numbered). Ok (front ++ clauses))

-- clauses that were read, and the line of the first that is false
abbrev pub AreRead : Result (List Numbered) Fault → Assignment → List Clause → Option ℕ → Type 0
AreRead read assignment clauses line =
    (numbered : List Numbered) × (read ≡ Ok numbered) × (only_clauses numbered ≡ clauses)
    × (false_line assignment numbered ≡ line)

-- the line of the first false clause, by the one of those before and whether the clause in this line is true
abbrev pub with_line : Option ℕ → Bool → ℕ → Option ℕ
with_line (Some first) holds line = Some first
with_line None true line = None
with_line None false line = Some line
