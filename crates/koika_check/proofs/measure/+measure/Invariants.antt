use Rattle.std.proofs.Common.{◌≡◌, List, map, take, ◌+◌, ◌≤◌}
use Rattle.koika_check.specs.Capped as counts
use Rattle.koika_check.specs.Sizes as sizes
use Rattle.koika_check.specs.inner.Sizes as inner_sizes
use Rattle.koika_check.proofs.Runs.{run_size, behind}
use Rattle.koika_check.proofs.measure.+measure.Given as goal

abbrev pub invariant-weigh_bodies-loop-index : goal.invariant-weigh_bodies-loop-index
invariant-weigh_bodies-loop-index l = (parts : List sizes.Size) → l.fn.bodies ≡ map counts.capped parts → l.all ≡ counts.capped (sizes.arms_size l.fn.arms (map (sizes.size_of (record { design = l.fn.design; bodies = parts })) (take l.index l.operands)))

abbrev pub invariant-weigh_chain-loop-index : goal.invariant-weigh_chain-loop-index
invariant-weigh_chain-loop-index l = (parts : List sizes.Size) → l.fn.bodies ≡ map counts.capped parts → l.all ≡ counts.capped (sizes.chain_size l.fn.operators (map (sizes.size_of (record { design = l.fn.design; bodies = parts })) (take l.index l.operands)))

abbrev pub invariant-weigh_conditions-loop-index : goal.invariant-weigh_conditions-loop-index
invariant-weigh_conditions-loop-index l = (parts : List sizes.Size) → l.fn.bodies ≡ map counts.capped parts → l.all ≡ counts.capped (sizes.one_deeper (map (sizes.size_of (record { design = l.fn.design; bodies = parts })) (take l.index l.operands)))

abbrev pub invariant-weigh_parts-loop-operand : goal.invariant-weigh_parts-loop-operand
invariant-weigh_parts-loop-operand l = (parts : List sizes.Size) → l.fn.bodies ≡ map counts.capped parts → l.all ≡ counts.capped (sizes.side_by_side (map (sizes.size_of (record { design = l.fn.design; bodies = parts })) (take l.operand-index l.operands)))

abbrev pub invariant-weigh_steps-loop-step : goal.invariant-weigh_steps-loop-step
invariant-weigh_steps-loop-step l =
    (l.depth ≤ l.step-index + 1) ×
    ((parts : List sizes.Size) → l.fn.bodies ≡ map counts.capped parts →
    (l.all ≡ counts.capped (run_size 1 (map (inner_sizes.size_of_step (record { design = l.fn.design; bodies = parts })) (take l.step-index l.steps)))) ×
    (l.depth ≡ behind 1 (map (inner_sizes.size_of_step (record { design = l.fn.design; bodies = parts })) (take l.step-index l.steps))))
