use Rattle.std.proofs.Common.{◌≡◌, ◌+◌, ◌++◌, ◌≤◌, flat_map, length, map}
use Rattle.std.specs.List.{All}
use Rattle.clause_check.specs.Clauses.{Clause}
use Rattle.clause_check.specs.Flat.{clauses_by}
use Rattle.clause_check.specs.declared.literal.Literal.{Literal}
use Rattle.invariant_check.specs.Obligations.{before_step, folded}
use Rattle.invariant_check.proofs.draft.Draft.push_before.Given as goal

abbrev pub invariant-loop-first : goal.invariant-loop-first
invariant-loop-first l =
    record {
      clauses : l.self.formula.clauses
          ++ flat_map folded (map (λ (clause : Clause). map (before_step l.inputs) clause)
          (clauses_by l.rest.literals.now l.rest.lengths.now))
          ≡ l.fn.self.formula.clauses
          ++ flat_map folded (map (λ (clause : Clause). map (before_step l.inputs) clause)
          (clauses_by l.fn.invariant.literals.now l.fn.invariant.lengths.now));
      variables : l.self.formula.variables ≡ l.fn.self.formula.variables;
      bound : All (λ (literal : Literal). l.inputs + literal.variable ≤ l.fn.self.formula.variables)
          l.rest.literals.now;
    }

abbrev pub decreases-loop-first : goal.decreases-loop-first
decreases-loop-first l = length l.rest.lengths.now
