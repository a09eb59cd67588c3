use Rattle.std.proofs.Common.{◌≡◌, length}
use Rattle.clause_check.proofs.values.Values.open_all.Given as goal

abbrev pub invariant-loop-variable : goal.invariant-loop-variable
invariant-loop-variable l = length l.self.values.items ≡ length l.fn.self.values.items

abbrev pub decreases-loop-variable : goal.decreases-loop-variable
decreases-loop-variable l = length l.self.trail.items
