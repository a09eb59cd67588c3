use Rattle.std.proofs.Common.{◌≡◌, length}
use Rattle.clause_check.specs.inner.Tokens.{digits_from}
use Rattle.clause_check.proofs.token.digits_here.Given as goal

abbrev pub invariant-loop-first : goal.invariant-loop-first
invariant-loop-first l = digits_from l.value l.rest ≡ digits_from 0 l.bytes

abbrev pub decreases-loop-first : goal.decreases-loop-first
decreases-loop-first l = length l.rest
