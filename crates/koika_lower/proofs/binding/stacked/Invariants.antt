use Rattle.std.proofs.Common.{◌-◌, ◌≤◌}
use Rattle.typed_core.specs.Evaluation.{comes_to}
use Rattle.koika_lower.specs.inner.Actions.{ComesTo}
use Rattle.koika_lower.specs.inner.Applied.{StackFits, names_stacked}
use Rattle.koika_lower.proofs.binding.stacked.Given as goal

abbrev pub invariant-loop-name : goal.invariant-loop-name
invariant-loop-name l = (1 ≤ l.name) × ComesTo l.action (λ env ports locals. comes_to (names_stacked (l.name - 1) locals)) × StackFits l.name l.action
