-- Clauses in one list of literals, with the length of each.
use Rattle.std.specs.Prelude.{◌≡◌, ℕ, List, [], ◌∷◌, All, drop, length, sum, take}
use Rattle.clause_check.specs.Clauses.{Clause, IsLiteral}
use Rattle.clause_check.specs.declared.literal.Literal.{Literal}

-- the clauses of these lengths, one after another
abbrev pub clauses_by : List Literal → List ℕ → List Clause
clauses_by literals [] = []
clauses_by literals (len ∷ lengths) = take len literals ∷ clauses_by (drop len literals) lengths

-- the lengths are of all the literals, each of which is one of these variables
pub record IsFlat (variables : ℕ) (literals : List Literal) (lengths : List ℕ) : Type 0 where
  pub whole : sum lengths ≡ length literals
  pub each : All (IsLiteral variables) literals
