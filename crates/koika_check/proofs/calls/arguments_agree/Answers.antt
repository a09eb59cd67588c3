use Rattle.std.proofs.Common.{arith, sym, ◌∙◌}
use Rattle.koika_check.specs.inner.Shapes.{part_of, type_of_shape}
use Rattle.koika_check.proofs.CalledTypes.{agree-past}
use Rattle.koika_check.proofs.calls.arguments_agree.Goals as goal

pub returns : goal.returns
returns c arrays a p q =
    sym (agree-past (type_of_shape arrays) (part_of arrays) c.args.parameters.now c.args.arguments.now c.loop-index.index (omega arith)) ∙ c.loop-index.invariant arrays a p q
