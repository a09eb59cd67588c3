use Rattle.std.proofs.Common.{◌≡◌, ◌≤◌, ◌++◌, ◌∙◌, [], List, Some, None, append-nil, inl, inr, is_some, length, ap, subst, sym, arith}
use Rattle.std.specs.Prelude.{slice_get}
use Rattle.std.proofs.lemmas.Bool.{ltb-false}
use Rattle.std.proofs.lemmas.Option.{slice_get_past}
use Rattle.koika_check.specs.declared.checked.CheckedFunction.{CheckedFunction}
use Rattle.koika_check.specs.declared.typed.Typed.{Typed}
use Rattle.koika_lower.proofs.Bodies.{item-at}
use Rattle.lab_core.proofs.Grown.{on_ok}
use Rattle.lab_lint.specs.Occurrences.{Part, bodies_before, part_of}
use Rattle.lab_lint.specs.inner.Occurrences.{part_of_step}
use Rattle.lab_lint.proofs.Bodies.{own-Call, own-none}
use Rattle.lab_lint.proofs.Turns.{choice-none, turn-more}
use Rattle.lab_lint.proofs.body.+body.Goals as goal

pub push_body-returns-in-Some : goal.push_body-returns-in-Some
push_body-returns-in-Some t c =
    let d = c.args.design.now in
    let f = c.in-Some.function.now in
    let at : slice_get d.functions c.args.number ≡ Some f = item-at d.functions c.as_slice.result.now c.args.number f c.as_slice.ensures c.in-Some.ensures.lookup.3.0 c.in-Some.ensures.lookup.1 in
    on_ok c.push_all.result _ _ c.push_all.ensures (λ e. e ∙ ap (λ (p : Part). c.args.all.now ++ p.all) (sym (own-Call d c.args.functions c.args.number f c.if-number-functions.true at)))

pub push_body-returns-in_default : goal.push_body-returns-in_default
push_body-returns-in_default t c =
    sym (ap (λ (p : Part). c.args.all.now ++ p.all) (own-none c.args.design.now c.args.functions c.args.number (inr c.if-number-functions.false)) ∙ append-nil c.args.all.now)

pub push_body-returns-in_default-2 : goal.push_body-returns-in_default-2
push_body-returns-in_default-2 t c =
    let d = c.args.design.now in
    let short : length c.as_slice.result.now ≤ c.args.number = ltb-false c.args.number (length c.as_slice.result.now) (sym c.get.ensures.lookup.0 ∙ ap (λ o. is_some o) c.in_default.is) in
    let none : slice_get d.functions c.args.number ≡ None = slice_get_past d.functions c.args.number (subst (λ (fs : List CheckedFunction). length fs ≤ c.args.number) c.as_slice.ensures short) in
    sym (ap (λ (p : Part). c.args.all.now ++ p.all) (own-none d c.args.functions c.args.number (inl none)) ∙ append-nil c.args.all.now)

pub push_choice-returns-in-None : goal.push_choice-returns-in-None
push_choice-returns-in-None t c =
    sym (ap (λ (p : Part). c.args.all.now ++ p.all) (choice-none (part_of (bodies_before c.args.design.now c.args.functions)) c.args.conditions.now c.args.bodies.now c.in-None.ensures.cases) ∙ append-nil c.args.all.now)

pub push_operands-loop-operand-preserved : goal.push_operands-loop-operand-preserved
push_operands-loop-operand-preserved t c =
    turn-more (part_of (bodies_before c.args.design.now c.args.functions)) c.args.operands.now c.loop-operand.operand-index c.operand-item.result c.args.all.now c.loop-operand.all c.push_all.new.all
    (omega arith) c.operand-item.is c.loop-operand.invariant c.in_ok-push_all.ensures

pub push_steps-loop-step-preserved : goal.push_steps-loop-step-preserved
push_steps-loop-step-preserved t c =
    turn-more (part_of_step (bodies_before c.args.design.now c.args.functions)) c.args.steps.now c.loop-step.step-index c.step-item.result c.args.all.now c.loop-step.all c.push_step.new.all
    (omega arith) c.step-item.is c.loop-step.invariant c.in_ok-push_step.ensures
