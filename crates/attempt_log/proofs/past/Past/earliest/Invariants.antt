use Rattle.std.proofs.Common.{◌≡◌}
use Rattle.attempt_log.specs.inner.Firsts.{row, earliest_below}
use Rattle.attempt_log.proofs.past.Past.earliest.Given as goal

abbrev pub invariant-loop-kind : goal.invariant-loop-kind
invariant-loop-kind l = l.first ≡ earliest_below l.access (row l.self.firsts l.access.register) l.kind
