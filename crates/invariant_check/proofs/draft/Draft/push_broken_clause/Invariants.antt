use Rattle.std.proofs.Common.{◌≡◌, ◌++◌, drop, flat_map}
use Rattle.invariant_check.specs.Obligations.{broken_clauses, folded}
use Rattle.invariant_check.proofs.draft.Draft.push_broken_clause.Given as goal

abbrev pub invariant-loop-literal : goal.invariant-loop-literal
invariant-loop-literal l =
    record {
      clauses : l.self.formula.clauses
          ++ flat_map folded (broken_clauses l.nexts l.variable (drop l.literal-index l.clause))
          ≡ l.fn.self.formula.clauses ++ flat_map folded (broken_clauses l.nexts l.variable l.clause);
      variables : l.self.formula.variables ≡ l.fn.self.formula.variables;
    }
