use Rattle.std.proofs.Common.{◌≡◌, ◌+◌, ◌*◌, ◌++◌, length, map, sum_by, take}
use Rattle.koika_check.proofs.TreeCounts.{count, count_step}
use Rattle.koika_lower.proofs.CallCosts.{calls}
use Rattle.lab_lint.specs.Occurrences.{bodies_before, in_turn, part_of}
use Rattle.lab_lint.specs.inner.Occurrences.{part_of_step}
use Rattle.lab_lint.proofs.body.+body.Given as goal

abbrev pub invariant-push_operands-loop-operand : goal.invariant-push_operands-loop-operand
invariant-push_operands-loop-operand l = l.all ≡ l.fn.all ++ (in_turn (map (part_of (bodies_before l.fn.design l.fn.functions)) (take l.operand-index l.operands))).all

abbrev pub invariant-push_steps-loop-step : goal.invariant-push_steps-loop-step
invariant-push_steps-loop-step l = l.all ≡ l.fn.all ++ (in_turn (map (part_of_step (bodies_before l.fn.design l.fn.functions)) (take l.step-index l.steps))).all

abbrev pub decreases-push_all : goal.decreases-push_all
decreases-push_all l = calls l.design.now l.functions + 4 * count l.of.now

abbrev pub decreases-push_operands : goal.decreases-push_operands
decreases-push_operands l = calls l.design.now l.functions + 4 * sum_by count l.operands.now + 1

abbrev pub decreases-push_steps : goal.decreases-push_steps
decreases-push_steps l = calls l.design.now l.functions + 4 * sum_by count_step l.steps.now + 1

abbrev pub decreases-push_step : goal.decreases-push_step
decreases-push_step l = calls l.design.now l.functions + 4 * count_step l.step.now

abbrev pub decreases-push_choice : goal.decreases-push_choice
decreases-push_choice l = calls l.design.now l.functions + 4 * (sum_by count l.conditions.now + sum_by count l.bodies.now) + 1

abbrev pub decreases-push_operation : goal.decreases-push_operation
decreases-push_operation l = calls l.design.now l.functions + 1

abbrev pub decreases-push_body : goal.decreases-push_body
decreases-push_body l = calls l.design.now l.functions
