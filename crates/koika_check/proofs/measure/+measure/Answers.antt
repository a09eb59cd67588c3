use Rattle.std.proofs.Common.{◌∙◌, map, ap, ap₂, sym, arith}
use Rattle.std.proofs.lemmas.List.{take_all}
use Rattle.koika_check.specs.Capped as counts
use Rattle.koika_check.specs.inner.Capped as inner_counts
use Rattle.koika_check.specs.Sizes.{Rests, both, size, size_of}
use Rattle.koika_check.specs.inner.Sizes.{size_of_step}
use Rattle.koika_check.proofs.Caps.{capped-both}
use Rattle.koika_check.proofs.Runs.{behind, run_size, steps_size-is}
use Rattle.koika_check.proofs.Steps.{count-arm, count-deeper, count-operand, count-part, count-step, step-behind}
use Rattle.koika_check.proofs.measure.+measure.Goals as goal

pub weigh_parts-loop-operand-preserved : goal.weigh_parts-loop-operand-preserved
weigh_parts-loop-operand-preserved t c parts e =
    c.and-all.ensures ∙
    count-part (size_of (record { design = c.args.design.now; bodies = parts })) c.args.operands.now c.loop-operand.operand-index c.operand-item.result c.loop-operand.all c.weigh.result
    (omega arith) c.operand-item.is (c.loop-operand.invariant parts e) (c.weigh.ensures parts e)

pub weigh_conditions-loop-index-preserved : goal.weigh_conditions-loop-index-preserved
weigh_conditions-loop-index-preserved t c parts e =
    c.and-all.ensures ∙ ap (inner_counts.both c.loop-index.all) c.deeper.ensures ∙
    count-deeper (size_of (record { design = c.args.design.now; bodies = parts })) c.args.operands.now c.loop-index.index c.index-operands-index.result c.loop-index.all c.weigh.result
    (omega arith) c.index-operands-index.is (c.loop-index.invariant parts e) (c.weigh.ensures parts e)

pub weigh_bodies-loop-index-preserved : goal.weigh_bodies-loop-index-preserved
weigh_bodies-loop-index-preserved t c parts e =
    c.and-all.ensures ∙ ap (inner_counts.both c.loop-index.all) (c.deeper.ensures ∙ ap (λ d. inner_counts.deeper d c.weigh.result) c.min-depth.ensures) ∙
    count-arm (size_of (record { design = c.args.design.now; bodies = parts })) c.args.arms c.args.operands.now c.loop-index.index c.index-operands-index.result c.loop-index.all c.weigh.result
    (omega arith) c.index-operands-index.is (c.loop-index.invariant parts e) (c.weigh.ensures parts e)

pub weigh_chain-loop-index-preserved : goal.weigh_chain-loop-index-preserved
weigh_chain-loop-index-preserved t c parts e =
    c.and-all.ensures ∙ ap (inner_counts.both c.loop-index.all) (c.deeper.ensures ∙ ap (λ d. inner_counts.deeper d c.weigh.result) (grind (arith, c.min.ensures, c.saturating_sub.ensures))) ∙
    count-operand (size_of (record { design = c.args.design.now; bodies = parts })) c.args.operators c.args.operands.now c.loop-index.index c.index-operands-index.result c.loop-index.all c.weigh.result
    (omega arith) c.index-operands-index.is (c.loop-index.invariant parts e) (c.weigh.ensures parts e)

pub weigh_steps-loop-step-preserved : goal.weigh_steps-loop-step-preserved
weigh_steps-loop-step-preserved t c = (
  omega (arith, c.loop-step.invariant.0, c.step_weight-own.ensures.few),
  λ parts e.
      let r : Rests = record { design = c.args.design.now; bodies = parts } in
      let before = c.loop-step.invariant.1 parts e in (
        c.and-all.ensures ∙ ap (inner_counts.both c.loop-step.all) (c.heavier.ensures ∙ ap (inner_counts.heavier c.step_weight-own.result) c.deeper.ensures) ∙
            count-step (size_of_step r) c.args.steps.now c.loop-step.step-index c.step-item.result c.loop-step.all c.weigh_step.result c.step_weight-own.result c.loop-step.depth
            (omega arith) c.step-item.is (c.step_weight-own.ensures.statement r) before.1 before.0 (c.weigh_step.ensures parts e),
        step-behind (size_of_step r) c.args.steps.now c.loop-step.step-index c.step-item.result c.step_weight-own.result c.loop-step.depth
            (omega arith) c.step-item.is (c.step_weight-own.ensures.statement r) before.1,
      ),
)

pub weigh_steps-returns : goal.weigh_steps-returns
weigh_steps-returns t c parts e =
    let f = size_of_step (record { design = c.args.design.now; bodies = parts }) in
    let whole = ap (map f) (take_all c.loop-step.step-index c.args.steps.now c.loop-step-test.false) in
    let before = c.loop-step.invariant.1 parts e in
    c.and.ensures ∙ ap₂ inner_counts.both before.0 (c.of.ensures ∙ ap (λ d. counts.capped (size 0 d)) before.1) ∙ capped-both _ _ ∙
    ap (λ steps. counts.capped (both (run_size 1 steps) (size 0 (behind 1 steps)))) whole ∙ ap counts.capped (sym (steps_size-is (map f c.args.steps.now)))
