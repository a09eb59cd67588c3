use Rattle.std.proofs.Common.{arith}
use Rattle.koika_lower.proofs.Bindings.{stacked-next, stacked-typed}
use Rattle.koika_lower.proofs.binding.stacked.Goals as goal

pub loop-name-preserved : goal.loop-name-preserved
loop-name-preserved c = (
  omega arith,
  stacked-next c.loop-name.name c.loop-name.action c.in_ok-action.action c.loop-name.invariant.0 c.loop-name.invariant.1 c.in_ok-action.ensures,
  stacked-typed c.loop-name.name c.loop-name.action c.in_ok-action.action c.loop-name.invariant.0 c.loop-name.invariant.2 c.in_ok-action.ensures,
)
