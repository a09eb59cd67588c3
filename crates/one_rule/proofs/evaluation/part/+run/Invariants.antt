use Rattle.std.proofs.Common.{◌*◌, ◌+◌, max}
use Rattle.typed_core.specs.declared.action.Action.{size-Action}
use Rattle.one_rule.proofs.evaluation.part.+run.Given as goal

-- what goes through several parts goes as deep as the deepest of them
abbrev pub decreases-run : goal.decreases-run
decreases-run g l = 3 * size-Action l.action.now

abbrev pub decreases-operand : goal.decreases-operand
decreases-operand g l = 3 * size-Action l.action.now + 1

abbrev pub decreases-unary : goal.decreases-unary
decreases-unary g l = 3 * size-Action l.a.now + 2

abbrev pub decreases-slice : goal.decreases-slice
decreases-slice g l = 3 * size-Action l.a.now + 2

abbrev pub decreases-zext : goal.decreases-zext
decreases-zext g l = 3 * size-Action l.a.now + 2

abbrev pub decreases-sext : goal.decreases-sext
decreases-sext g l = 3 * size-Action l.a.now + 2

abbrev pub decreases-look : goal.decreases-look
decreases-look g l = 3 * size-Action l.a.now + 2

abbrev pub decreases-ask : goal.decreases-ask
decreases-ask g l = 3 * size-Action l.a.now + 2

abbrev pub decreases-write : goal.decreases-write
decreases-write g l = 3 * size-Action l.a.now + 2

abbrev pub decreases-binary : goal.decreases-binary
decreases-binary g l = 3 * max (size-Action l.operands.0.now) (size-Action l.operands.1.now) + 2

abbrev pub decreases-bound : goal.decreases-bound
decreases-bound g l = 3 * max (size-Action l.a.now) (size-Action l.body.now) + 2

abbrev pub decreases-chosen : goal.decreases-chosen
decreases-chosen g l = 3 * max (size-Action l.a.now) (max (size-Action l.arms.0.now) (size-Action l.arms.1.now)) + 2

abbrev pub decreases-in_turn : goal.decreases-in_turn
decreases-in_turn g l = 3 * max (size-Action l.first.now) (size-Action l.second.now) + 2
