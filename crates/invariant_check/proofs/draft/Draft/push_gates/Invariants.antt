use Rattle.std.proofs.Common.{◌≡◌, ◌+◌, ◌++◌, drop, flat_map}
use Rattle.invariant_check.specs.Obligations.{folded, graph_clauses}
use Rattle.invariant_check.proofs.draft.Draft.push_gates.Given as goal

-- the clauses so far, and those of the gates that are left
abbrev pub invariant-loop-k : goal.invariant-loop-k
invariant-loop-k l =
    record {
      clauses : l.self.formula.clauses
          ++ flat_map folded (graph_clauses l.needed (1 + l.sources + l.k) (drop l.k l.gates))
          ≡ l.fn.self.formula.clauses ++ flat_map folded (graph_clauses l.needed (1 + l.sources) l.gates);
      variables : l.self.formula.variables ≡ l.fn.self.formula.variables;
    }
