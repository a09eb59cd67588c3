-- The text of a formula in the form DIMACS CNF: a line `p cnf V C` with the greatest number of a variable and the number of
-- clauses, and a line for each clause, whose literals each have a space after them and end with `0`.
use Rattle.std.specs.Prelude.{ℕ, if◌then◌else◌, List, [], ◌∷◌, ◌++◌, codes, decimal, flat_map, length}
use Rattle.clause_check.specs.Clauses.{Clause, Cnf}
use Rattle.clause_check.specs.declared.literal.Literal.{Literal}

abbrev pub sign_text : Literal → List ℕ
sign_text literal = if literal.is_negated then 45 ∷ [] else []

-- `12 ` or `-12 `
abbrev pub literal_text : Literal → List ℕ
literal_text literal = sign_text literal ++ decimal literal.variable ++ 32 ∷ []

abbrev pub clause_line : Clause → List ℕ
clause_line clause = flat_map literal_text clause ++ 48 ∷ 10 ∷ []

abbrev pub problem_line : Cnf → List ℕ
problem_line formula = codes "p cnf " ++ decimal formula.variables ++ codes " " ++ decimal (length formula.clauses) ++ 10 ∷ []

unfoldable pub dimacs_of : Cnf → List ℕ
dimacs_of formula = problem_line formula ++ flat_map clause_line formula.clauses
