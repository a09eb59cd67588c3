use Rattle.std.proofs.Common.{◌≡◌, ◌<◌, [], List, length}
use Rattle.std.specs.List.{All}
use Rattle.clause_check.specs.Propagation.{denied}
use Rattle.clause_check.specs.declared.literal.Literal.{Literal}
use Rattle.clause_check.specs.inner.Values.{Agrees}
use Rattle.clause_check.proofs.values.Values.deny.Given as goal

abbrev pub invariant-loop-literal : goal.invariant-loop-literal
invariant-loop-literal l =
    record {
      count : length l.self.values.items ≡ length l.fn.self.values.items;
      within : All (λ (literal : Literal). literal.variable < length l.fn.self.values.items) l.rest;
      denies : (trues : List Literal) × Agrees l.self.values.items trues × (denied trues l.rest ≡ denied [] l.clause);
    }

abbrev pub decreases-loop-literal : goal.decreases-loop-literal
decreases-loop-literal l = length l.rest
