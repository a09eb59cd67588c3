use Rattle.std.proofs.Common.{◌≡◌, ◌+◌, ◌-◌, ◌*◌, length, sum_by, take}
use Rattle.koika_lower.specs.inner.Expressions.{AreLowered}
use Rattle.koika_lower.proofs.Sides.{depth_behind}
use Rattle.koika_check.proofs.TreeCounts.{count, count_step}
use Rattle.koika_lower.proofs.CallCosts.{calls}
use Rattle.koika_lower.proofs.expressions.+lower.Given as goal

abbrev pub invariant-lower_all-loop-one : goal.invariant-lower_all-loop-one
invariant-lower_all-loop-one l = record {
  place : l.at ≡ depth_behind l.fn.rises l.fn.depth l.one-index;
  count : length l.all ≡ l.one-index;
  lowered : AreLowered l.fn.lowering.design.now l.fn.lowering.functions l.fn.depth l.fn.rises l.fn.names (take l.one-index l.of) l.all;
}

abbrev pub decreases-lower_expression : goal.decreases-lower_expression
decreases-lower_expression l = calls l.lowering.now.design.now l.lowering.now.functions + 4 * count l.of.now

abbrev pub decreases-lower_all : goal.decreases-lower_all
decreases-lower_all l = calls l.lowering.now.design.now l.lowering.now.functions + 4 * sum_by count l.of.now + 1

abbrev pub decreases-lower_steps : goal.decreases-lower_steps
decreases-lower_steps l = calls l.lowering.now.design.now l.lowering.now.functions + 4 * sum_by count_step l.steps.now + 2

abbrev pub decreases-lower_let : goal.decreases-lower_let
decreases-lower_let l = calls l.lowering.now.design.now l.lowering.now.functions + 4 * (count l.value.now + sum_by count_step l.rest.now) + 3

abbrev pub decreases-lower_callee : goal.decreases-lower_callee
decreases-lower_callee l = calls l.lowering.now.design.now l.lowering.now.functions

abbrev pub decreases-lower_body : goal.decreases-lower_body
decreases-lower_body l = calls l.lowering.now.design.now l.lowering.now.functions + 4 * count l.function.now.body + (length l.function.now.parameters - l.index) + 1
