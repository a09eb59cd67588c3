use Rattle.std.proofs.Common.{◌≡◌, ◌+◌, ◌*◌, [], sum_by, take}
use Rattle.koika_check.specs.BitWeights.{bodies_after, squares}
use Rattle.koika_check.specs.inner.BitWeights.{cap, step_squares}
use Rattle.koika_check.proofs.TreeCounts.{calls, count, count_step}
use Rattle.koika_check.proofs.bit_weight.+squares.Given as goal

abbrev pub invariant-squares_in-loop-operand : goal.invariant-squares_in-loop-operand
invariant-squares_in-loop-operand l = l.all ≡ cap (sum_by (squares (bodies_after [] l.fn.functions)) (take l.operand-index l.fn.operands))

abbrev pub invariant-squares_of_steps-loop-step : goal.invariant-squares_of_steps-loop-step
invariant-squares_of_steps-loop-step l = l.all ≡ cap (sum_by (step_squares (bodies_after [] l.fn.functions)) (take l.step-index l.fn.steps))

abbrev pub decreases-squares : goal.decreases-squares
decreases-squares l = calls l.functions.now + 4 * count l.of.now

abbrev pub decreases-own_squares : goal.decreases-own_squares
decreases-own_squares l = calls l.functions.now + 1

abbrev pub decreases-squares_in : goal.decreases-squares_in
decreases-squares_in l = calls l.functions.now + 4 * sum_by count l.operands.now + 1

abbrev pub decreases-squares_of_steps : goal.decreases-squares_of_steps
decreases-squares_of_steps l = calls l.functions.now + 4 * sum_by count_step l.steps.now + 1

abbrev pub decreases-squares_of_step : goal.decreases-squares_of_step
decreases-squares_of_step l = calls l.functions.now + 4 * count_step l.step.now
