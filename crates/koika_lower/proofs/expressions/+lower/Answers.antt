use Rattle.std.proofs.Common.{ℕ, ◌≡◌, ◌+◌, ◌<◌, List, [], ◌∷◌, ◌++◌, length, sum_by, take, drop, get_or, Some, slice_get, false, if◌then◌else◌, arith, ap, sym, subst, ◌∙◌}
use Rattle.std.proofs.lemmas.List.{length-append}
use Rattle.koika_check.specs.Typing.{IsType}
use Rattle.koika_check.specs.declared.checked.CheckedFunction.{CheckedFunction}
use Rattle.koika_check.specs.declared.typed.Operation.{Operation}
use Rattle.koika_check.specs.declared.typed.Operation.TheVariants as operation
use Rattle.koika_check.specs.declared.checked.Checked.{Checked}
use Rattle.koika_check.specs.declared.typed.BlockStep.{BlockStep}
use Rattle.koika_check.specs.declared.typed.Typed.{Typed}
use Rattle.koika_check.specs.declared.typed.Typed.TheVariants as typed
use Rattle.koika_check.specs.declared.typed.ValueType.{ValueType}
use Rattle.koika_lower.specs.inner.Expressions.{AreLowered, AreLoweredSteps, AreTyped, AreTypedSteps, IsTyped}
use Rattle.koika_lower.specs.inner.Simulation.{IsBody, parameter_names, rises}
use Rattle.koika_lower.specs.declared.lowered.Bound.{Bound}
use Rattle.koika_lower.specs.declared.lowered.Lowered.{Lowered}
use Rattle.koika_lower.proofs.Atoms.{at_form, constant-lowers, input-lowers, local-lowers}
use Rattle.koika_lower.proofs.Bindings.{on_ok}
use Rattle.koika_lower.proofs.Bodies.{bind-next, body-lowers, item-at}
use Rattle.koika_lower.proofs.Calls.{called-lowers}
use Rattle.koika_lower.proofs.Lowerings.{IsLowered, apply-lowered, block-lowered, do-lowered, give-lowered, if-lowered, let-lowered}
use Rattle.koika_lower.proofs.Sides.{behind-next, lowered-push}
use Rattle.koika_lower.proofs.WellTyped.{arms-fit, arms-typed, body-typed, callee-declared, conditions-typed, constant-typed, do-rest-typed, do-value-typed, give-value-typed, input-declared, let-rest-typed, let-value-typed, local-bound, one-typed, operands-typed, operation-fits, steps-typed}
use Rattle.koika_check.proofs.TreeCounts.{count, count_step, count-Apply, count-Block, count-Do, count-Give, count-If, count-Let, count-one}
use Rattle.koika_lower.proofs.CallCosts.{calls-behind, count-first}
use Rattle.koika_lower.proofs.expressions.+lower.Goals as goal

-- ---- expressions, by their kinds

-- an expression whose outermost part is known is as well typed
known : (d : Checked) (n depth : ℕ) (names : List Bound) (e form : Typed) → e ≡ form → IsTyped d n depth names e → IsTyped d n depth names form
known d n depth names e form same h = subst (λ (x : Typed). IsTyped d n depth names x) same h

pub lower_expression-constant-requires : goal.lower_expression-constant-requires
lower_expression-constant-requires t c =
    constant-typed c.args.lowering.now.design.now c.args.lowering.now.functions c.args.depth c.args.names.now c.in-Constant.value
    (known c.args.lowering.now.design.now c.args.lowering.now.functions c.args.depth c.args.names.now c.args.of.now (typed.Constant c.in-Constant.value) c.in-Constant.is c.requires)

pub lower_expression-returns-in-Constant : goal.lower_expression-returns-in-Constant
lower_expression-returns-in-Constant t c types of design are h =
    at_form c.args.lowering.now.design.now c.args.lowering.now.functions c.args.depth c.args.names.now types c.args.of.now (typed.Constant c.in-Constant.value) of c.constant.result c.in-Constant.is h
    (constant-lowers c.args.lowering.now.design.now c.args.lowering.now.functions c.args.depth c.args.names.now types design c.in-Constant.value of c.constant.result c.constant.ensures)

pub lower_expression-local-requires : goal.lower_expression-local-requires
lower_expression-local-requires t c =
    local-bound c.args.lowering.now.design.now c.args.lowering.now.functions c.args.depth c.args.names.now c.in-Local.index
    (known c.args.lowering.now.design.now c.args.lowering.now.functions c.args.depth c.args.names.now c.args.of.now (typed.Local c.in-Local.index) c.in-Local.is c.requires)

pub lower_expression-returns-in-Local : goal.lower_expression-returns-in-Local
lower_expression-returns-in-Local t c types of design are h =
    at_form c.args.lowering.now.design.now c.args.lowering.now.functions c.args.depth c.args.names.now types c.args.of.now (typed.Local c.in-Local.index) of c.local.result c.in-Local.is h
    (local-lowers c.args.lowering.now.design.now c.args.lowering.now.functions c.args.depth c.args.names.now types c.in-Local.index of c.local.result are c.local.ensures)

pub lower_expression-input-requires : goal.lower_expression-input-requires
lower_expression-input-requires t c =
    input-declared c.args.lowering.now.design.now c.args.lowering.now.functions c.args.depth c.args.names.now c.in-Input.number
    (known c.args.lowering.now.design.now c.args.lowering.now.functions c.args.depth c.args.names.now c.args.of.now (typed.Input c.in-Input.number) c.in-Input.is c.requires)

pub lower_expression-returns-in-Input : goal.lower_expression-returns-in-Input
lower_expression-returns-in-Input t c types of design are h =
    at_form c.args.lowering.now.design.now c.args.lowering.now.functions c.args.depth c.args.names.now types c.args.of.now (typed.Input c.in-Input.number) of c.input.result c.in-Input.is h
    (input-lowers c.args.lowering.now.design.now c.args.lowering.now.functions c.args.depth c.args.names.now types design c.in-Input.number of c.input.result c.input.ensures)

pub lower_expression-lower_all-requires : goal.lower_expression-lower_all-requires
lower_expression-lower_all-requires t c = (
  omega (arith, c.decreases, ap count c.in-Apply.is, count-Apply c.in-Apply.operation c.in-Apply.operands, ap (sum_by count) c.as_slice.ensures),
  subst (λ (es : List Typed). AreTyped c.args.lowering.now.design.now c.args.lowering.now.functions c.args.depth c.args.names.now es) (sym c.as_slice.ensures)
      (operands-typed c.args.lowering.now.design.now c.args.lowering.now.functions c.args.depth c.args.names.now c.in-Apply.operation c.in-Apply.operands
      (known c.args.lowering.now.design.now c.args.lowering.now.functions c.args.depth c.args.names.now c.args.of.now (typed.Apply c.in-Apply.operation c.in-Apply.operands)
      c.in-Apply.is c.requires)),
)

pub lower_expression-lower_callee-requires : goal.lower_expression-lower_callee-requires
lower_expression-lower_callee-requires t c =
    let call : c.args.of.now ≡ typed.Apply (operation.Call c.in-Call.number) c.in-Apply.operands = c.in-Apply.is ∙ ap (λ (o : Operation). typed.Apply o c.in-Apply.operands) c.in-Call.is in
    let may = callee-declared c.args.lowering.now.design.now c.args.lowering.now.functions c.args.depth c.args.names.now c.in-Call.number c.in-Apply.operands
    (known c.args.lowering.now.design.now c.args.lowering.now.functions c.args.depth c.args.names.now c.args.of.now (typed.Apply (operation.Call c.in-Call.number) c.in-Apply.operands)
    call c.requires) in (
      omega (arith, c.decreases, ap count c.in-Apply.is, count-Apply c.in-Apply.operation c.in-Apply.operands),
      (c.requires.2, (may.0, may.1)),
    )

pub lower_expression-applied-requires : goal.lower_expression-applied-requires
lower_expression-applied-requires t c =
    operation-fits c.args.lowering.now.design.now c.args.lowering.now.functions c.args.depth c.args.names.now c.in-Apply.operation c.in-Apply.operands c.binds_operands-rises.result
    c.in_ok-lowered-in-Apply.lowered
    (known c.args.lowering.now.design.now c.args.lowering.now.functions c.args.depth c.args.names.now c.args.of.now (typed.Apply c.in-Apply.operation c.in-Apply.operands) c.in-Apply.is c.requires)
    (subst (λ (es : List Typed). AreLowered c.args.lowering.now.design.now c.args.lowering.now.functions c.args.depth c.binds_operands-rises.result c.args.names.now es
    c.in_ok-lowered-in-Apply.lowered) c.as_slice.ensures c.in_ok-lowered-in-Apply.ensures)
    c.in_default.not-Call

pub lower_expression-returns-in_ok-lower_callee-in-Call : goal.lower_expression-returns-in_ok-lower_callee-in-Call
lower_expression-returns-in_ok-lower_callee-in-Call t c =
    let call : c.args.of.now ≡ typed.Apply (operation.Call c.in-Call.number) c.in-Apply.operands = c.in-Apply.is ∙ ap (λ (o : Operation). typed.Apply o c.in-Apply.operands) c.in-Call.is in
    on_ok c.called.result
    (λ l made types of design are h.
    at_form c.args.lowering.now.design.now c.args.lowering.now.functions c.args.depth c.args.names.now types c.args.of.now
    (typed.Apply (operation.Call c.in-Call.number) c.in-Apply.operands) of l call h
    (apply-lowered c.args.lowering.now.design.now c.args.lowering.now.functions c.args.depth c.args.names.now (operation.Call c.in-Call.number) c.in-Apply.operands
    c.binds_operands-rises.result c.in_ok-lowered-in-Apply.lowered l
    (c.binds_operands-rises.ensures ∙ ap rises c.in-Call.is)
    (subst (λ (es : List Typed). AreLowered c.args.lowering.now.design.now c.args.lowering.now.functions c.args.depth c.binds_operands-rises.result c.args.names.now es
    c.in_ok-lowered-in-Apply.lowered) c.as_slice.ensures c.in_ok-lowered-in-Apply.ensures)
    (λ types ts of senses given. called-lowers c.args.lowering.now.design.now c.args.lowering.now.functions c.args.depth c.args.names.now types c.in-Call.number ts of senses
    c.in_ok-lowered-in-Apply.lowered c.in_ok-lower_callee-in-Call.field-0 l
    c.in_ok-lower_callee-in-Call.ensures made given)
    types of design are))
    c.called.ensures

pub lower_expression-returns-in_default : goal.lower_expression-returns-in_default
lower_expression-returns-in_default t c =
    on_ok c.applied.result
    (λ l made types of design are h.
    at_form c.args.lowering.now.design.now c.args.lowering.now.functions c.args.depth c.args.names.now types c.args.of.now (typed.Apply c.in-Apply.operation c.in-Apply.operands) of l c.in-Apply.is h
    (apply-lowered c.args.lowering.now.design.now c.args.lowering.now.functions c.args.depth c.args.names.now c.in-Apply.operation c.in-Apply.operands c.binds_operands-rises.result
    c.in_ok-lowered-in-Apply.lowered l
    c.binds_operands-rises.ensures
    (subst (λ (es : List Typed). AreLowered c.args.lowering.now.design.now c.args.lowering.now.functions c.args.depth c.binds_operands-rises.result c.args.names.now es
    c.in_ok-lowered-in-Apply.lowered) c.as_slice.ensures c.in_ok-lowered-in-Apply.ensures)
    (λ types ts of senses given. made c.args.lowering.now.functions c.args.depth c.args.names.now types ts of senses given)
    types of design are))
    c.applied.ensures

pub lower_expression-lower_all-requires-in-If : goal.lower_expression-lower_all-requires-in-If
lower_expression-lower_all-requires-in-If t c = (
  omega (arith, c.decreases, ap count c.in-If.is, count-If c.in-If.conditions c.in-If.bodies, ap (sum_by count) c.as_slice-in-If.ensures),
  subst (λ (es : List Typed). AreTyped c.args.lowering.now.design.now c.args.lowering.now.functions c.args.depth c.args.names.now es) (sym c.as_slice-in-If.ensures)
      (conditions-typed c.args.lowering.now.design.now c.args.lowering.now.functions c.args.depth c.args.names.now c.in-If.conditions c.in-If.bodies
      (known c.args.lowering.now.design.now c.args.lowering.now.functions c.args.depth c.args.names.now c.args.of.now (typed.If c.in-If.conditions c.in-If.bodies) c.in-If.is c.requires)),
)

pub lower_expression-lower_all-requires-in-If-2 : goal.lower_expression-lower_all-requires-in-If-2
lower_expression-lower_all-requires-in-If-2 t c = (
  omega (arith, c.decreases, ap count c.in-If.is, count-If c.in-If.conditions c.in-If.bodies, ap (sum_by count) c.as_slice-in-If-2.ensures),
  subst (λ (es : List Typed). AreTyped c.args.lowering.now.design.now c.args.lowering.now.functions c.args.depth c.args.names.now es) (sym c.as_slice-in-If-2.ensures)
      (arms-typed c.args.lowering.now.design.now c.args.lowering.now.functions c.args.depth c.args.names.now c.in-If.conditions c.in-If.bodies
      (known c.args.lowering.now.design.now c.args.lowering.now.functions c.args.depth c.args.names.now c.args.of.now (typed.If c.in-If.conditions c.in-If.bodies) c.in-If.is c.requires)),
)

pub lower_expression-chosen-requires : goal.lower_expression-chosen-requires
lower_expression-chosen-requires t c =
    arms-fit c.args.lowering.now.design.now c.args.lowering.now.functions c.args.depth c.args.names.now c.in-If.conditions c.in-If.bodies c.in_ok-tests-in-If.tests c.in_ok-branches-in-If.branches
    (known c.args.lowering.now.design.now c.args.lowering.now.functions c.args.depth c.args.names.now c.args.of.now (typed.If c.in-If.conditions c.in-If.bodies) c.in-If.is c.requires)
    (subst (λ (es : List Typed). AreLowered c.args.lowering.now.design.now c.args.lowering.now.functions c.args.depth false c.args.names.now es c.in_ok-tests-in-If.tests)
    c.as_slice-in-If.ensures c.in_ok-tests-in-If.ensures)
    (subst (λ (es : List Typed). AreLowered c.args.lowering.now.design.now c.args.lowering.now.functions c.args.depth false c.args.names.now es c.in_ok-branches-in-If.branches)
    c.as_slice-in-If-2.ensures c.in_ok-branches-in-If.ensures)

pub lower_expression-returns-in_ok-branches-in-If : goal.lower_expression-returns-in_ok-branches-in-If
lower_expression-returns-in_ok-branches-in-If t c =
    on_ok c.chosen.result
    (λ l made types of design are h.
    at_form c.args.lowering.now.design.now c.args.lowering.now.functions c.args.depth c.args.names.now types c.args.of.now (typed.If c.in-If.conditions c.in-If.bodies) of l c.in-If.is h
    (if-lowered c.args.lowering.now.design.now c.args.lowering.now.functions c.args.depth c.args.names.now c.in-If.conditions c.in-If.bodies c.in_ok-tests-in-If.tests
    c.in_ok-branches-in-If.branches l
    (subst (λ (es : List Typed). AreLowered c.args.lowering.now.design.now c.args.lowering.now.functions c.args.depth false c.args.names.now es c.in_ok-tests-in-If.tests)
    c.as_slice-in-If.ensures c.in_ok-tests-in-If.ensures)
    (subst (λ (es : List Typed). AreLowered c.args.lowering.now.design.now c.args.lowering.now.functions c.args.depth false c.args.names.now es c.in_ok-branches-in-If.branches)
    c.as_slice-in-If-2.ensures c.in_ok-branches-in-If.ensures)
    made types of design are))
    c.chosen.ensures

pub lower_expression-lower_steps-requires : goal.lower_expression-lower_steps-requires
lower_expression-lower_steps-requires t c = (
  omega (arith, c.decreases, ap count c.in-Block.is, count-Block c.in-Block.steps, ap (sum_by count_step) c.as_slice-in-Block.ensures),
  subst (λ (steps : List BlockStep). AreTypedSteps c.args.lowering.now.design.now c.args.lowering.now.functions c.args.depth c.args.names.now steps) (sym c.as_slice-in-Block.ensures)
      (steps-typed c.args.lowering.now.design.now c.args.lowering.now.functions c.args.depth c.args.names.now c.in-Block.steps
      (known c.args.lowering.now.design.now c.args.lowering.now.functions c.args.depth c.args.names.now c.args.of.now (typed.Block c.in-Block.steps) c.in-Block.is c.requires)),
)

pub lower_expression-returns-in-Block : goal.lower_expression-returns-in-Block
lower_expression-returns-in-Block t c =
    on_ok c.lower_steps.result
    (λ l made types of design are h.
    at_form c.args.lowering.now.design.now c.args.lowering.now.functions c.args.depth c.args.names.now types c.args.of.now (typed.Block c.in-Block.steps) of l c.in-Block.is h
    (block-lowered c.args.lowering.now.design.now c.args.lowering.now.functions c.args.depth c.args.names.now c.in-Block.steps l
    (subst (λ (steps : List BlockStep). AreLoweredSteps c.args.lowering.now.design.now c.args.lowering.now.functions c.args.depth c.args.names.now steps l) c.as_slice-in-Block.ensures made)
    types of design are))
    c.lower_steps.ensures

-- ---- expressions side by side

pub lower_all-lower_expression-requires : goal.lower_all-lower_expression-requires
lower_all-lower_expression-requires t c = (
  omega (arith, c.decreases, count-one c.args.of.now c.loop-one.one-index c.one-item.result c.loop-one-test.true c.one-item.is),
  one-typed c.args.lowering.now.design.now c.args.lowering.now.functions c.args.depth c.args.names.now c.args.of.now c.args.rises c.loop-one.one-index c.loop-one.at c.one-item.result
      c.one-item.result c.requires c.loop-one-test.true c.one-item.is c.loop-one.invariant.place,
)

pub lower_all-loop-one-preserved : goal.lower_all-loop-one-preserved
lower_all-loop-one-preserved t c =
    let before = c.loop-one.invariant in
    let pushed : c.push.new.self ≡ c.loop-one.all ++ c.in_ok-lowered.lowered ∷ [] = c.in_ok-push.ensures.ok in
    record {
      place = c.in_ok-at.ensures ∙ ap (λ k. if c.args.rises then k + 1 else k) before.place ∙ sym (behind-next c.args.rises c.args.depth c.loop-one.one-index);
      count = omega (arith, ap length pushed, length-append c.loop-one.all (c.in_ok-lowered.lowered ∷ []), before.count);
      lowered = subst (λ (ls : List Lowered). AreLowered c.args.lowering.now.design.now c.args.lowering.now.functions c.args.depth c.args.rises c.args.names.now
          (take (c.loop-one.one-index + 1) c.args.of.now) ls) (sym pushed)
          (lowered-push c.args.lowering.now.design.now c.args.lowering.now.functions c.args.depth c.args.rises c.args.names.now c.args.of.now c.loop-one.one-index c.loop-one.at
          c.one-item.result c.loop-one.all
          c.in_ok-lowered.lowered c.loop-one-test.true before.count before.place before.lowered
          (subst (λ (e : Typed). IsLowered c.args.lowering.now.design.now c.args.lowering.now.functions c.loop-one.at c.args.names.now e c.in_ok-lowered.lowered) c.one-item.is
          c.in_ok-lowered.ensures));
    }

-- ---- steps

pub lower_steps-lower_let-requires : goal.lower_steps-lower_let-requires
lower_steps-lower_let-requires t c = (
  omega (arith, c.decreases, count-first c.args.steps.now c.in-Some.rest.now c.in-Some.step.now c.in-Some.ensures.cases.0, ap count_step c.in-Let.is, count-Let c.in-Let.value),
  subst (λ (steps : List BlockStep). AreTypedSteps c.args.lowering.now.design.now c.args.lowering.now.functions c.args.depth c.args.names.now steps)
      (c.in-Some.ensures.cases.0 ∙ ap (λ (s : BlockStep). s ∷ c.in-Some.rest.now) c.in-Let.is) c.requires,
)

pub lower_steps-lower_expression-requires : goal.lower_steps-lower_expression-requires
lower_steps-lower_expression-requires t c = (
  omega (arith, c.decreases, count-first c.args.steps.now c.in-Some.rest.now c.in-Some.step.now c.in-Some.ensures.cases.0, ap count_step c.in-Do.is, count-Do c.in-Do.value),
  do-value-typed c.args.lowering.now.design.now c.args.lowering.now.functions c.args.depth c.args.names.now c.in-Do.value c.in-Some.rest.now
      (subst (λ (steps : List BlockStep). AreTypedSteps c.args.lowering.now.design.now c.args.lowering.now.functions c.args.depth c.args.names.now steps)
      (c.in-Some.ensures.cases.0 ∙ ap (λ (s : BlockStep). s ∷ c.in-Some.rest.now) c.in-Do.is) c.requires),
)

pub lower_steps-lower_steps-requires : goal.lower_steps-lower_steps-requires
lower_steps-lower_steps-requires t c = (
  omega (arith, c.decreases, count-first c.args.steps.now c.in-Some.rest.now c.in-Some.step.now c.in-Some.ensures.cases.0, ap count_step c.in-Do.is, count-Do c.in-Do.value),
  do-rest-typed c.args.lowering.now.design.now c.args.lowering.now.functions c.args.depth c.args.names.now c.in-Do.value c.in-Some.rest.now
      (subst (λ (steps : List BlockStep). AreTypedSteps c.args.lowering.now.design.now c.args.lowering.now.functions c.args.depth c.args.names.now steps)
      (c.in-Some.ensures.cases.0 ∙ ap (λ (s : BlockStep). s ∷ c.in-Some.rest.now) c.in-Do.is) c.requires),
)

pub lower_steps-lower_expression-requires-in-Give : goal.lower_steps-lower_expression-requires-in-Give
lower_steps-lower_expression-requires-in-Give t c = (
  omega (arith, c.decreases, count-first c.args.steps.now c.in-Some.rest.now c.in-Some.step.now c.in-Some.ensures.cases.0, ap count_step c.in-Give.is, count-Give c.in-Give.value),
  give-value-typed c.args.lowering.now.design.now c.args.lowering.now.functions c.args.depth c.args.names.now c.in-Give.value c.in-Some.rest.now
      (subst (λ (steps : List BlockStep). AreTypedSteps c.args.lowering.now.design.now c.args.lowering.now.functions c.args.depth c.args.names.now steps)
      (c.in-Some.ensures.cases.0 ∙ ap (λ (s : BlockStep). s ∷ c.in-Some.rest.now) c.in-Give.is) c.requires),
)

pub lower_steps-returns-in_ok-second-in-Do : goal.lower_steps-returns-in_ok-second-in-Do
lower_steps-returns-in_ok-second-in-Do t c =
    on_ok c.one_after_another.result
    (λ l h. subst (λ (steps : List BlockStep). AreLoweredSteps c.args.lowering.now.design.now c.args.lowering.now.functions c.args.depth c.args.names.now steps l)
    (sym (c.in-Some.ensures.cases.0 ∙ ap (λ (s : BlockStep). s ∷ c.in-Some.rest.now) c.in-Do.is))
    (do-lowered c.args.lowering.now.design.now c.args.lowering.now.functions c.args.depth c.args.names.now c.in-Do.value c.in-Some.rest.now c.in_ok-first-in-Do.first c.in_ok-second-in-Do.second l
    c.in_ok-first-in-Do.ensures c.in_ok-second-in-Do.ensures h))
    c.one_after_another.ensures

pub lower_steps-returns-in-Give : goal.lower_steps-returns-in-Give
lower_steps-returns-in-Give t c =
    on_ok c.lower_expression-in-Give.result
    (λ l h. subst (λ (steps : List BlockStep). AreLoweredSteps c.args.lowering.now.design.now c.args.lowering.now.functions c.args.depth c.args.names.now steps l)
    (sym (c.in-Some.ensures.cases.0 ∙ ap (λ (s : BlockStep). s ∷ c.in-Some.rest.now) c.in-Give.is))
    (give-lowered c.args.lowering.now.design.now c.args.lowering.now.functions c.args.depth c.args.names.now c.in-Give.value c.in-Some.rest.now l h))
    c.lower_expression-in-Give.ensures

pub lower_let-lower_expression-requires : goal.lower_let-lower_expression-requires
lower_let-lower_expression-requires t c = (
  omega (arith, c.decreases),
  let-value-typed c.args.lowering.now.design.now c.args.lowering.now.functions c.args.depth c.args.names.now
      c.args.value.now c.args.rest.now c.requires,
)

pub lower_let-lower_steps-requires : goal.lower_let-lower_steps-requires
lower_let-lower_steps-requires t c = (
  omega (arith, c.decreases),
  let-rest-typed c.args.lowering.now.design.now c.args.lowering.now.functions c.args.depth c.args.names.now c.args.value.now c.args.rest.now c.in_ok-first.first c.in_ok-deeper.field-0
      c.bind-inside.result c.requires c.in_ok-first.ensures
      c.in_ok-deeper.ensures c.bind-inside.ensures,
)

pub lower_let-returns : goal.lower_let-returns
lower_let-returns t c =
    let-lowered c.args.lowering.now.design.now c.args.lowering.now.functions c.args.depth c.args.names.now c.args.value.now c.args.rest.now c.in_ok-first.first c.in_ok-second.second
    c.in_ok-deeper.field-0 c.in_ok-bind.field-0
    c.in_ok-first.ensures c.in_ok-deeper.ensures
    (subst (λ (names : List Bound). AreLoweredSteps c.args.lowering.now.design.now c.args.lowering.now.functions c.in_ok-deeper.field-0 names c.args.rest.now c.in_ok-second.second)
    c.bind-inside.ensures c.in_ok-second.ensures)
    c.in_ok-bind.ensures

-- ---- bodies of functions

pub lower_callee-lower_body-requires : goal.lower_callee-lower_body-requires
lower_callee-lower_body-requires t c =
    let d = c.args.lowering.now.design.now in
    let f = c.index-as_slice-functions.result in
    let within : c.args.number < length c.as_slice.result.now = subst (λ (fs : List CheckedFunction). c.args.number < length fs) (sym c.as_slice.ensures) c.requires.declared in
    let at : slice_get d.functions c.args.number ≡ Some f = item-at d.functions c.as_slice.result.now c.args.number f c.as_slice.ensures within c.index-as_slice-functions.is in (
      omega (arith, c.decreases, calls-behind d c.args.lowering.now.functions c.args.number f c.requires.may_be_called at),
      (c.requires.design, (at, (omega arith, ap (λ (bs : List Bound). parameter_names d 0 f.parameters bs) c.empty.ensures))),
    )

pub lower_callee-returns : goal.lower_callee-returns
lower_callee-returns t c =
    let d = c.args.lowering.now.design.now in
    let f = c.index-as_slice-functions.result in
    let within : c.args.number < length c.as_slice.result.now = subst (λ (fs : List CheckedFunction). c.args.number < length fs) (sym c.as_slice.ensures) c.requires.declared in
    let at : slice_get d.functions c.args.number ≡ Some f = item-at d.functions c.as_slice.result.now c.args.number f c.as_slice.ensures within c.index-as_slice-functions.is in
    on_ok c.lower_body.result
    (λ body made g below at'.
    let same : f ≡ g = let e = sym at ∙ at' in cc in
    subst (λ (h : CheckedFunction). IsBody d c.args.number h body) same made)
    c.lower_body.ensures

pub lower_body-width_of-requires : goal.lower_body-width_of-requires
lower_body-width_of-requires t c =
    let f = c.args.function.now in
    let i = c.args.index in
    let one = c.in-Some.parameter.now in
    let items = c.as_slice-parameters.ensures in
    let found = c.in-Some.ensures.lookup in
    let within : i < length f.parameters = subst (λ (l : List ValueType). i < length l) items found.3.0 in
    let is : one ≡ get_or f.parameters i one = subst (λ (l : List ValueType). one ≡ get_or l i one) items found.1 in
    subst (λ (t : ValueType). IsType c.args.lowering.now.design.now t) (sym is) ((c.requires.design.functions c.args.lowering.now.functions f c.requires.function).parameters i one within)

pub lower_body-lower_body-requires : goal.lower_body-lower_body-requires
lower_body-lower_body-requires t c =
    let d = c.args.lowering.now.design.now in
    let f = c.args.function.now in
    let i = c.args.index in
    let one = c.in-Some.parameter.now in
    let items = c.as_slice-parameters.ensures in
    let found = c.in-Some.ensures.lookup in
    let within : i < length f.parameters = subst (λ (l : List ValueType). i < length l) items found.3.0 in
    let is : one ≡ get_or f.parameters i one = subst (λ (l : List ValueType). one ≡ get_or l i one) items found.1 in (
      omega (arith, c.decreases, within, c.in_ok-deeper-in-Some.ensures),
      (
        c.requires.design,
        (
          c.requires.function,
          (
            omega (arith, within, c.in_ok-deeper-in-Some.ensures),
            ap (λ (bs : List Bound). parameter_names d c.in_ok-deeper-in-Some.field-0 (drop c.in_ok-deeper-in-Some.field-0 f.parameters) bs) c.bind-inside.ensures ∙
                bind-next d i c.in_ok-deeper-in-Some.field-0 f.parameters one c.args.names.now (parameter_names d 0 f.parameters []) c.width_of.result within is c.width_of.ensures
                c.in_ok-deeper-in-Some.ensures
                c.requires.names,
          ),
        ),
      ),
    )

pub lower_body-lower_expression-requires : goal.lower_body-lower_expression-requires
lower_body-lower_expression-requires t c = (
  omega (arith, c.decreases),
  body-typed c.args.lowering.now.design.now c.args.lowering.now.functions c.args.index c.args.function.now c.args.names.now c.requires.design c.requires.function c.requires.index
      (omega (arith, ap (λ (ps : List ValueType). length ps) c.as_slice-parameters.ensures, c.in-None.ensures.lookup.3)) c.requires.names,
)

pub lower_body-returns-in-None : goal.lower_body-returns-in-None
lower_body-returns-in-None t c =
    let d = c.args.lowering.now.design.now in
    let f = c.args.function.now in
    on_ok c.lower_expression.result
    (λ l lowers.
    body-lowers d c.args.lowering.now.functions c.args.index f c.args.names.now l (c.requires.design.functions c.args.lowering.now.functions f c.requires.function) c.requires.index
    (omega (arith, ap (λ (ps : List ValueType). length ps) c.as_slice-parameters.ensures, c.in-None.ensures.lookup.3)) c.requires.names
    (λ types of are typed. lowers types of c.requires.design are typed))
    c.lower_expression.ensures
