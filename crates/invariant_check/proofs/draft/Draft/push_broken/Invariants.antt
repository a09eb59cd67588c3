use Rattle.std.proofs.Common.{◌≡◌, ◌+◌, ◌/◌, ◌++◌, ◌≤◌, flat_map, length}
use Rattle.std.specs.List.{All}
use Rattle.clause_check.specs.Flat.{clauses_by}
use Rattle.clause_check.specs.declared.literal.Literal.{Literal}
use Rattle.invariant_check.specs.Obligations.{all_broken_clauses, folded, next_lit}
use Rattle.invariant_check.proofs.draft.Draft.push_broken.Given as goal

abbrev pub invariant-loop-first : goal.invariant-loop-first
invariant-loop-first l =
    record {
      clauses : l.self.formula.clauses
          ++ flat_map folded (all_broken_clauses l.nexts l.next (clauses_by l.rest.literals.now l.rest.lengths.now))
          ≡ l.fn.self.formula.clauses
          ++ flat_map folded (all_broken_clauses l.nexts l.variable
          (clauses_by l.fn.invariant.literals.now l.fn.invariant.lengths.now));
      variables : l.self.formula.variables ≡ l.fn.self.formula.variables;
      few : l.next + length l.rest.lengths.now ≤ 1 + l.fn.self.formula.variables;
      within : All (λ (literal : Literal). (1 ≤ literal.variable)
          × (literal.variable ≤ length l.nexts)) l.rest.literals.now;
      bound : All (λ (literal : Literal). next_lit l.nexts literal / 2 ≤ l.fn.self.formula.variables)
          l.rest.literals.now;
    }

abbrev pub decreases-loop-first : goal.decreases-loop-first
decreases-loop-first l = length l.rest.lengths.now
