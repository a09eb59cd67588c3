use Rattle.std.proofs.Common.{◌≡◌, ◌+◌, ◌-◌, ◌++◌}
use Rattle.invariant_check.specs.Obligations.{broken_lits}
use Rattle.invariant_check.proofs.obligations.add_broken_lits.Given as goal

abbrev pub invariant-loop-k : goal.invariant-loop-k
invariant-loop-k l = l.lits.items ++ broken_lits (l.variable + l.k) (l.clauses - l.k)
    ≡ l.fn.lits.items ++ broken_lits l.variable l.clauses
