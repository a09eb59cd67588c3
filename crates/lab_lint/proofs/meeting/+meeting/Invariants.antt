use Rattle.std.proofs.Common.{◌≡◌, ◌+◌, ◌*◌, ◌≤◌, drop, length, map, sum_by}
use Rattle.koika_check.proofs.TreeCounts.{count, count_step}
use Rattle.koika_lower.proofs.CallCosts.{calls}
use Rattle.lab_lint.specs.Occurrences.{bodies_before, in_turn, part_of}
use Rattle.lab_lint.specs.inner.Occurrences.{part_of_step}
use Rattle.lab_lint.specs.inner.Meetings.{meeting_of}
use Rattle.lab_lint.proofs.meeting.+meeting.Given as goal

abbrev pub invariant-meet_operands-loop-at : goal.invariant-meet_operands-loop-at
invariant-meet_operands-loop-at l = record {
  inside : l.at ≤ length l.operands;
  later : l.all ≡ meeting_of l.fn.access (in_turn (map (part_of (bodies_before l.fn.design l.fn.functions)) (drop l.at l.operands)));
}

abbrev pub invariant-meet_steps-loop-at : goal.invariant-meet_steps-loop-at
invariant-meet_steps-loop-at l = record {
  inside : l.at ≤ length l.steps;
  later : l.all ≡ meeting_of l.fn.access (in_turn (map (part_of_step (bodies_before l.fn.design l.fn.functions)) (drop l.at l.steps)));
}

abbrev pub decreases-meet_operands-loop-at : goal.decreases-meet_operands-loop-at
decreases-meet_operands-loop-at l = l.at

abbrev pub decreases-meet_steps-loop-at : goal.decreases-meet_steps-loop-at
decreases-meet_steps-loop-at l = l.at

abbrev pub decreases-meet : goal.decreases-meet
decreases-meet l = calls l.design.now l.functions + 4 * count l.of.now

abbrev pub decreases-meet_operands : goal.decreases-meet_operands
decreases-meet_operands l = calls l.design.now l.functions + 4 * sum_by count l.operands.now + 1

abbrev pub decreases-meet_steps : goal.decreases-meet_steps
decreases-meet_steps l = calls l.design.now l.functions + 4 * sum_by count_step l.steps.now + 1

abbrev pub decreases-meet_step : goal.decreases-meet_step
decreases-meet_step l = calls l.design.now l.functions + 4 * count_step l.step.now

abbrev pub decreases-meet_choice : goal.decreases-meet_choice
decreases-meet_choice l = calls l.design.now l.functions + 4 * (sum_by count l.conditions.now + sum_by count l.bodies.now) + 1

abbrev pub decreases-meet_operation : goal.decreases-meet_operation
decreases-meet_operation l = calls l.design.now l.functions + 1

abbrev pub decreases-meet_body : goal.decreases-meet_body
decreases-meet_body l = calls l.design.now l.functions
