use Rattle.std.proofs.Common.{◌≡◌, ◌<◌, length}
use Rattle.std.specs.List.{All}
use Rattle.clause_check.specs.declared.literal.Literal.{Literal}
use Rattle.clause_check.specs.inner.Values.{LeftIsBelow}
use Rattle.clause_check.proofs.Propagating.{left_from}
use Rattle.clause_check.specs.declared.left.Left.TheVariants as lefts
use Rattle.clause_check.proofs.values.Values.left_of.Given as goal

abbrev pub invariant-loop-literal : goal.invariant-loop-literal
invariant-loop-literal l =
    record {
      within : All (λ (literal : Literal). literal.variable < length l.self.values.items) l.rest;
      below : LeftIsBelow (length l.self.values.items) l.left;
      same : left_from l.self.values.items l.left l.rest ≡ left_from l.self.values.items lefts.Nothing l.clause;
    }

abbrev pub decreases-loop-literal : goal.decreases-loop-literal
decreases-loop-literal l = length l.rest
