use Rattle.std.proofs.Common.{◌≡◌, ℕ, ◌+◌, ◌<◌, List, [], length, get_or, sum_by, take, Some, slice_get, arith, ap, ap₂, sym, subst, ◌∙◌}
use Rattle.std.specs.List.{All}
use Rattle.std.proofs.lemmas.Option.{slice_get-get_or}
use Rattle.koika_check.specs.BitWeights.{bodies_after, own_squares, squares, squares_if}
use Rattle.koika_check.specs.inner.BitWeights.{AppliesAmong, IsStepAmong, IsTypedAmong, cap, step_squares}
use Rattle.koika_check.specs.declared.checked.CheckedFunction.{CheckedFunction}
use Rattle.koika_check.specs.declared.typed.Operation.{Operation}
use Rattle.koika_check.specs.declared.typed.Operation.TheVariants as operation
use Rattle.koika_check.specs.declared.typed.BlockStep.{BlockStep}
use Rattle.koika_check.specs.declared.typed.Typed.{Typed}
use Rattle.koika_check.proofs.Squares.{body-at, cap-sum, squares-Apply, squares-Block, squares-Constant, squares-Do, squares-Give, squares-If, squares-Input, squares-Let, squares-Local}
use Rattle.koika_check.proofs.TreeCounts.{calls-behind, count, count-Apply, count-Block, count-Do, count-Give, count-If, count-Let, count-one, count-step, count_step}
use Rattle.koika_check.proofs.TypedAmong.{bodies-among, body-among, called-among, conditions-among, do-among, give-among, let-among, operands-among, operation-among, steps-among}
use Rattle.koika_check.proofs.bit_weight.+squares.Goals as goal

-- ---- what is known of the parts

pub squares-squares_in-operands-requires : goal.squares-squares_in-operands-requires
squares-squares_in-operands-requires t c =
    let fs = c.args.functions.now in
    let o = c.in-Apply.operation in
    let es = c.in-Apply.operands in (
      omega (arith, c.decreases, ap count c.in-Apply.is, count-Apply o es, ap (sum_by count) c.as_slice.ensures),
      subst (All (IsTypedAmong fs)) (sym c.as_slice.ensures) (operands-among fs o es (subst (IsTypedAmong fs) c.in-Apply.is c.requires)),
    )

pub squares-own_squares-own-requires : goal.squares-own_squares-own-requires
squares-own_squares-own-requires t c =
    let fs = c.args.functions.now in
    let o = c.in-Apply.operation in
    let es = c.in-Apply.operands in (
      omega (arith, c.decreases, ap count c.in-Apply.is, count-Apply o es),
      operation-among fs o es (subst (IsTypedAmong fs) c.in-Apply.is c.requires),
    )

pub squares-squares_in-conditions-requires : goal.squares-squares_in-conditions-requires
squares-squares_in-conditions-requires t c =
    let fs = c.args.functions.now in
    let cs = c.in-If.conditions in
    let bs = c.in-If.bodies in (
      omega (arith, c.decreases, ap count c.in-If.is, count-If cs bs, ap (sum_by count) c.as_slice-in-If.ensures),
      subst (All (IsTypedAmong fs)) (sym c.as_slice-in-If.ensures) (conditions-among fs cs bs (subst (IsTypedAmong fs) c.in-If.is c.requires)),
    )

pub squares-squares_in-bodies-requires : goal.squares-squares_in-bodies-requires
squares-squares_in-bodies-requires t c =
    let fs = c.args.functions.now in
    let cs = c.in-If.conditions in
    let bs = c.in-If.bodies in (
      omega (arith, c.decreases, ap count c.in-If.is, count-If cs bs, ap (sum_by count) c.as_slice-in-If-2.ensures),
      subst (All (IsTypedAmong fs)) (sym c.as_slice-in-If-2.ensures) (bodies-among fs cs bs (subst (IsTypedAmong fs) c.in-If.is c.requires)),
    )

pub squares-squares_of_steps-requires : goal.squares-squares_of_steps-requires
squares-squares_of_steps-requires t c =
    let fs = c.args.functions.now in
    let steps = c.in-Block.steps in (
      omega (arith, c.decreases, ap count c.in-Block.is, count-Block steps, ap (sum_by count_step) c.as_slice-in-Block.ensures),
      subst (All (IsStepAmong fs)) (sym c.as_slice-in-Block.ensures) (steps-among fs steps (subst (IsTypedAmong fs) c.in-Block.is c.requires)),
    )

pub squares_in-squares-requires : goal.squares_in-squares-requires
squares_in-squares-requires t c =
    let within : c.loop-operand.operand-index < length c.args.operands.now = omega arith in (
      omega (arith, c.decreases, count-one c.args.operands.now c.loop-operand.operand-index c.operand-item.result within c.operand-item.is),
      subst (IsTypedAmong c.args.functions.now) (sym c.operand-item.is) (c.requires c.loop-operand.operand-index c.operand-item.result within),
    )

pub squares_of_steps-squares_of_step-requires : goal.squares_of_steps-squares_of_step-requires
squares_of_steps-squares_of_step-requires t c =
    let within : c.loop-step.step-index < length c.args.steps.now = omega arith in (
      omega (arith, c.decreases, count-step c.args.steps.now c.loop-step.step-index c.step-item.result within c.step-item.is),
      subst (IsStepAmong c.args.functions.now) (sym c.step-item.is) (c.requires c.loop-step.step-index c.step-item.result within),
    )

pub squares_of_step-squares-requires : goal.squares_of_step-squares-requires
squares_of_step-squares-requires t c = (
  omega (arith, c.decreases, ap count_step c.in-Let.is, count-Let c.in-Let.value),
  let-among c.args.functions.now c.in-Let.value (subst (IsStepAmong c.args.functions.now) c.in-Let.is c.requires),
)

pub squares_of_step-squares-requires-in-Do : goal.squares_of_step-squares-requires-in-Do
squares_of_step-squares-requires-in-Do t c = (
  omega (arith, c.decreases, ap count_step c.in-Do.is, count-Do c.in-Do.value),
  do-among c.args.functions.now c.in-Do.value (subst (IsStepAmong c.args.functions.now) c.in-Do.is c.requires),
)

pub squares_of_step-squares-requires-in-Give : goal.squares_of_step-squares-requires-in-Give
squares_of_step-squares-requires-in-Give t c = (
  omega (arith, c.decreases, ap count_step c.in-Give.is, count-Give c.in-Give.value),
  give-among c.args.functions.now c.in-Give.value (subst (IsStepAmong c.args.functions.now) c.in-Give.is c.requires),
)

-- ---- calls

-- the function that is called is there
called-there : (fs : List CheckedFunction) (o : Operation) (number : ℕ) → o ≡ operation.Call number → AppliesAmong fs o → number < length fs
called-there fs o number is h = called-among fs number (subst (AppliesAmong fs) is h)

pub own_squares-squares-requires : goal.own_squares-squares-requires
own_squares-squares-requires t c =
    let fs = c.args.functions.now in
    let number = c.in-Call.number in
    let f = get_or fs number c.index-functions-number.result in
    let within = called-there fs c.args.operation.now number c.in-Call.is c.requires in
    let at : slice_get fs number ≡ Some f = slice_get-get_or fs number c.index-functions-number.result within in (
      omega (arith, c.decreases, calls-behind fs number f at),
      body-among fs number f (subst (AppliesAmong fs) c.in-Call.is c.requires) at,
    )

pub own_squares-returns-in-Call : goal.own_squares-returns-in-Call
own_squares-returns-in-Call t c =
    let fs = c.args.functions.now in
    let number = c.in-Call.number in
    let f = get_or fs number c.index-functions-number.result in
    let within = called-there fs c.args.operation.now number c.in-Call.is c.requires in
    let at : slice_get fs number ≡ Some f = slice_get-get_or fs number c.index-functions-number.result within in
    let body : c.squares.result ≡ cap (squares (bodies_after [] (take number fs)) f.body) = c.squares.ensures in
    body ∙ ap (λ o. cap (squares_if o)) (sym (body-at fs number f at)) ∙ ap (λ (o : Operation). cap (own_squares (bodies_after [] fs) o)) (sym c.in-Call.is)

-- ---- the squares

pub squares-returns-in-Constant : goal.squares-returns-in-Constant
squares-returns-in-Constant t c =
    let b = bodies_after [] c.args.functions.now in
    ap cap (sym (squares-Constant b c.in-Constant.field-0)) ∙ ap (λ (x : Typed). cap (squares b x)) (sym c.in-Constant.is)

pub squares-returns-in-Local : goal.squares-returns-in-Local
squares-returns-in-Local t c =
    let b = bodies_after [] c.args.functions.now in
    ap cap (sym (squares-Local b c.in-Local.field-0)) ∙ ap (λ (x : Typed). cap (squares b x)) (sym c.in-Local.is)

pub squares-returns-in-Input : goal.squares-returns-in-Input
squares-returns-in-Input t c =
    let b = bodies_after [] c.args.functions.now in
    ap cap (sym (squares-Input b c.in-Input.field-0)) ∙ ap (λ (x : Typed). cap (squares b x)) (sym c.in-Input.is)

pub squares-returns-in-Apply : goal.squares-returns-in-Apply
squares-returns-in-Apply t c =
    let b = bodies_after [] c.args.functions.now in
    let o = c.in-Apply.operation in
    let es = c.in-Apply.operands in
    c.saturating_add.ensures
    ∙ ap₂ (λ m n. cap (m + n)) (c.squares_in-operands.ensures ∙ ap (λ (xs : List Typed). cap (sum_by (squares b) xs)) c.as_slice.ensures) c.own_squares-own.ensures
    ∙ cap-sum (sum_by (squares b) es) (own_squares b o) ∙ ap cap (sym (squares-Apply b o es)) ∙ ap (λ (x : Typed). cap (squares b x)) (sym c.in-Apply.is)

pub squares-returns-in-If : goal.squares-returns-in-If
squares-returns-in-If t c =
    let b = bodies_after [] c.args.functions.now in
    let cs = c.in-If.conditions in
    let bs = c.in-If.bodies in
    c.saturating_add-in-If.ensures
    ∙ ap₂ (λ m n. cap (m + n)) (c.squares_in-conditions.ensures ∙ ap (λ (xs : List Typed). cap (sum_by (squares b) xs)) c.as_slice-in-If.ensures)
    (c.squares_in-bodies.ensures ∙ ap (λ (xs : List Typed). cap (sum_by (squares b) xs)) c.as_slice-in-If-2.ensures)
    ∙ cap-sum (sum_by (squares b) cs) (sum_by (squares b) bs) ∙ ap cap (sym (squares-If b cs bs)) ∙ ap (λ (x : Typed). cap (squares b x)) (sym c.in-If.is)

pub squares-returns-in-Block : goal.squares-returns-in-Block
squares-returns-in-Block t c =
    let b = bodies_after [] c.args.functions.now in
    c.squares_of_steps.ensures ∙ ap (λ (xs : List BlockStep). cap (sum_by (step_squares b) xs)) c.as_slice-in-Block.ensures
    ∙ ap cap (sym (squares-Block b c.in-Block.steps)) ∙ ap (λ (x : Typed). cap (squares b x)) (sym c.in-Block.is)

pub squares_of_step-returns-in-Let : goal.squares_of_step-returns-in-Let
squares_of_step-returns-in-Let t c =
    let b = bodies_after [] c.args.functions.now in
    c.squares.ensures ∙ ap cap (sym (squares-Let b c.in-Let.value)) ∙ ap (λ (s : BlockStep). cap (step_squares b s)) (sym c.in-Let.is)

pub squares_of_step-returns-in-Do : goal.squares_of_step-returns-in-Do
squares_of_step-returns-in-Do t c =
    let b = bodies_after [] c.args.functions.now in
    c.squares-in-Do.ensures ∙ ap cap (sym (squares-Do b c.in-Do.value)) ∙ ap (λ (s : BlockStep). cap (step_squares b s)) (sym c.in-Do.is)

pub squares_of_step-returns-in-Give : goal.squares_of_step-returns-in-Give
squares_of_step-returns-in-Give t c =
    let b = bodies_after [] c.args.functions.now in
    c.squares-in-Give.ensures ∙ ap cap (sym (squares-Give b c.in-Give.value)) ∙ ap (λ (s : BlockStep). cap (step_squares b s)) (sym c.in-Give.is)
