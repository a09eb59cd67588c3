-- Clauses over numbered variables, as in DIMACS CNF: a clause is a disjunction of literals, a formula a conjunction of
-- clauses. An assignment gives each variable a value.
use Rattle.std.specs.Prelude.{ℕ, ◌≤◌, Bool, ◌&&◌, ◌==◌, not, if◌then◌else◌, IsTrue, List}
use Rattle.std.specs.Bool.{beq}
use Rattle.std.specs.List.{list_all, list_any}
use Rattle.clause_check.specs.declared.literal.Literal.{Literal}

abbrev pub Clause : Type 0
Clause = List Literal

abbrev pub Assignment : Type 0
Assignment = ℕ → Bool

-- a literal is true: its variable is, or, where the literal is negated, isn't
abbrev pub literal_value : Assignment → Literal → Bool
literal_value assignment literal = if literal.is_negated then not (assignment literal.variable) else assignment literal.variable

-- a clause is true: one of its literals is
abbrev pub clause_value : Assignment → Clause → Bool
clause_value assignment clause = list_any (literal_value assignment) clause

-- each clause is true
abbrev pub Satisfies : Assignment → List Clause → Type 0
Satisfies assignment clauses = IsTrue (list_all (clause_value assignment) clauses)

-- no assignment satisfies the clauses
abbrev pub IsUnsatisfiable : List Clause → Type 0
IsUnsatisfiable clauses = (assignment : Assignment) → Satisfies assignment clauses → ⊥

-- the literal of the other value
abbrev pub negation : Literal → Literal
negation literal = record { variable = literal.variable; is_negated = not literal.is_negated }

-- two literals are one and the same
abbrev pub is_same : Literal → Literal → Bool
is_same a b = (a.variable == b.variable) && beq a.is_negated b.is_negated

-- a literal of one of the variables 1 to `variables`
pub record IsLiteral (variables : ℕ) (literal : Literal) : Type 0 where
  pub some : 1 ≤ literal.variable
  pub within : literal.variable ≤ variables

-- a formula: the greatest number of a variable, and the clauses in order
pub record Cnf : Type 0 where
  pub variables : ℕ
  pub clauses : List Clause
