use Rattle.std.proofs.Common.{◌≡◌, ◌≤◌, ◌+◌, ◌-◌, ◌∙◌, [], ◌∷◌, List, Some, None, drop, inl, inr, is_some, length, map, ap, ap₂, subst, sym, arith}
use Rattle.std.specs.Prelude.{slice_get}
use Rattle.std.proofs.lemmas.Bool.{ltb-false}
use Rattle.std.proofs.lemmas.Option.{slice_get_past}
use Rattle.koika_check.specs.declared.checked.CheckedFunction.{CheckedFunction}
use Rattle.koika_check.specs.declared.typed.Typed.{Typed}
use Rattle.koika_lower.proofs.Bodies.{item-at}
use Rattle.lab_lint.specs.Occurrences as parts
use Rattle.lab_lint.specs.Occurrences.{Part, bodies_before, choice, in_turn, own, part_of}
use Rattle.lab_lint.specs.inner.Occurrences.{part_of_step}
use Rattle.lab_lint.specs.inner.Meetings.{either, in_order, meeting_of}
use Rattle.lab_lint.proofs.Bodies.{own-Call, own-none}
use Rattle.lab_lint.proofs.Layers.{part-Apply}
use Rattle.lab_lint.proofs.Meets.{meets-either, meets-in_order}
use Rattle.lab_lint.proofs.Turns.{choice-none, meet-more}
use Rattle.lab_lint.proofs.meeting.+meeting.Goals as goal

pub meet-returns-in-Apply : goal.meet-returns-in-Apply
meet-returns-in-Apply t c =
    let a = c.args.access in
    let ps = bodies_before c.args.design.now c.args.functions in
    c.before-in-Apply.ensures
    ∙ ap₂ in_order (c.meet_operands-first.ensures ∙ ap (λ (es : List Typed). meeting_of a (in_turn (map (part_of ps) es))) c.as_slice.ensures) c.meet_operation.ensures
    ∙ meets-in_order a (in_turn (map (part_of ps) c.in-Apply.operands)) (own ps c.in-Apply.operation)
    ∙ ap (meeting_of a) (sym (ap (part_of ps) c.in-Apply.is ∙ part-Apply ps c.in-Apply.operation c.in-Apply.operands))

pub meet_body-returns-in-Some : goal.meet_body-returns-in-Some
meet_body-returns-in-Some t c =
    let d = c.args.design.now in
    let f = c.in-Some.function.now in
    let at : slice_get d.functions c.args.number ≡ Some f = item-at d.functions c.as_slice.result.now c.args.number f c.as_slice.ensures c.in-Some.ensures.lookup.3.0 c.in-Some.ensures.lookup.1 in
    c.meet.ensures ∙ ap (meeting_of c.args.access) (sym (own-Call d c.args.functions c.args.number f c.if-number-functions.true at))

pub meet_body-returns-in_default : goal.meet_body-returns-in_default
meet_body-returns-in_default t c =
    ap (meeting_of c.args.access) (sym (own-none c.args.design.now c.args.functions c.args.number (inr c.if-number-functions.false)))

pub meet_body-returns-in_default-2 : goal.meet_body-returns-in_default-2
meet_body-returns-in_default-2 t c =
    let d = c.args.design.now in
    let short : length c.as_slice.result.now ≤ c.args.number = ltb-false c.args.number (length c.as_slice.result.now) (sym c.get.ensures.lookup.0 ∙ ap (λ o. is_some o) c.in_default.is) in
    let none : slice_get d.functions c.args.number ≡ None = slice_get_past d.functions c.args.number (subst (λ (fs : List CheckedFunction). length fs ≤ c.args.number) c.as_slice.ensures short) in
    ap (meeting_of c.args.access) (sym (own-none d c.args.functions c.args.number (inl none)))

pub meet_choice-returns-in-Some-split_first : goal.meet_choice-returns-in-Some-split_first
meet_choice-returns-in-Some-split_first t c =
    let a = c.args.access in
    let f = part_of (bodies_before c.args.design.now c.args.functions) in
    let test = f c.in-Some-split_first.condition.now in
    let arm = f c.in-Some.body.now in
    let other = choice (map f c.in-Some-split_first.conditions.now) (map f c.in-Some.later.now) in
    c.before-in-Some-split_first.ensures
    ∙ ap₂ in_order c.meet-first.ensures (c.either.ensures ∙ ap₂ either c.meet-arm.ensures c.meet_choice-other.ensures ∙ meets-either a arm other)
    ∙ meets-in_order a test (parts.either arm other)
    ∙ ap₂ (λ (cs bs : List Typed). meeting_of a (choice (map f cs) (map f bs))) (sym c.in-Some-split_first.ensures.cases.0) (sym c.in-Some.ensures.cases.0)

pub meet_choice-returns-in-None : goal.meet_choice-returns-in-None
meet_choice-returns-in-None t c =
    ap (meeting_of c.args.access) (sym (choice-none (part_of (bodies_before c.args.design.now c.args.functions)) c.args.conditions.now c.args.bodies.now c.in-None.ensures.cases))

pub meet_operands-loop-at-preserved : goal.meet_operands-loop-at-preserved
meet_operands-loop-at-preserved t c =
    let a = c.args.access in
    let f = part_of (bodies_before c.args.design.now c.args.functions) in
    let back : c.loop-at.at ≡ c.loop-at.at - 1 + 1 = omega (arith, c.loop-at-test.true) in
    record {
      inside = omega (arith, c.loop-at.invariant.inside);
      later = c.before-all.ensures
          ∙ meet-more f a c.args.operands.now (c.loop-at.at - 1) c.index-operands-at.result c.meet.result c.loop-at.all (omega (arith, c.loop-at.invariant.inside, c.loop-at-test.true)) c.index-operands-at.is c.meet.ensures
          (c.loop-at.invariant.later ∙ ap (λ k. meeting_of a (in_turn (map f (drop k c.args.operands.now)))) back);
    }

pub meet_steps-loop-at-preserved : goal.meet_steps-loop-at-preserved
meet_steps-loop-at-preserved t c =
    let a = c.args.access in
    let f = part_of_step (bodies_before c.args.design.now c.args.functions) in
    let back : c.loop-at.at ≡ c.loop-at.at - 1 + 1 = omega (arith, c.loop-at-test.true) in
    record {
      inside = omega (arith, c.loop-at.invariant.inside);
      later = c.before-all.ensures
          ∙ meet-more f a c.args.steps.now (c.loop-at.at - 1) c.index-steps-at.result c.meet_step.result c.loop-at.all (omega (arith, c.loop-at.invariant.inside, c.loop-at-test.true)) c.index-steps-at.is c.meet_step.ensures
          (c.loop-at.invariant.later ∙ ap (λ k. meeting_of a (in_turn (map f (drop k c.args.steps.now)))) back);
    }
