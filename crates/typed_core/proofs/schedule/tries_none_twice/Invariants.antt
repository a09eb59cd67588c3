use Rattle.std.proofs.Common.{ℕ, ◌<◌}
use Rattle.typed_core.specs.inner.Paths.{IsTriedOnce}
use Rattle.typed_core.proofs.schedule.tries_none_twice.Given as goal

abbrev pub invariant-loop-rule : goal.invariant-loop-rule
invariant-loop-rule l = (rule : ℕ) → rule < l.rule → IsTriedOnce l.nodes rule
