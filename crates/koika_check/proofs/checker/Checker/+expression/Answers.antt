use Rattle.std.proofs.Common.{◌≡◌, ◌+◌, [], ◌∷◌, ◌++◌, ap, ap₂, arith, length, length-append, map, Ok, refl, subst, sym, ◌∙◌}
use Rattle.std.specs.Option.{option_map}
use Rattle.std.proofs.lemmas.List.{take_all}
use Rattle.std.proofs.lemmas.Result.{err_from_is_err_and}
use Rattle.kw_base.specs.declared.fault_number.TheConstants.{UNKNOWN_NAME}
use Rattle.koika_syntax.specs.declared.tree.Block.{out-Block}
use Rattle.koika_syntax.specs.declared.tree.Expression.TheViews as views
use Rattle.koika_check.specs.inner.Checking.{AreGiven, IsPartIn, IsTyping, Yields, arrays_of, ready, scope_of, typing_of}
use Rattle.koika_check.specs.Composites.{array_of, fields_of}
use Rattle.koika_check.specs.Constructs.{array_in, call, comparison, conditional, extended, given_of, packed, postfix, struct_in, typing, unary, unpacked, updated, written}
use Rattle.koika_check.specs.Expressions.{block_in, chain_in, close, otherwise_in}
use Rattle.koika_check.specs.inner.Expressions.{arm_in, expression_in, field_value_in, operand_in, statement_in}
use Rattle.koika_check.specs.Outcomes.{Gives, ◌>>=◌, found, in_turn, one_by_one, wrong}
use Rattle.koika_check.specs.inner.Outcomes.{Ends}
use Rattle.koika_check.specs.Scopes.{called, register}
use Rattle.koika_check.specs.inner.Shapes.{part_of}
use Rattle.koika_check.specs.inner.TypedParts.{AreSteps, In, IsChained, IsStep, bound_step}
use Rattle.koika_check.specs.Types.{type_of}
use Rattle.koika_check.specs.declared.typed.BlockStep.TheVariants as step
use Rattle.koika_check.specs.Kinds.{number_named}
use Rattle.koika_check.specs.declared.things.Kind.TheVariants as kind
use Rattle.koika_check.proofs.BlockParts.{block-parts, expression-If, statement-Do, statement-Let}
use Rattle.koika_check.proofs.Blocks.{block-ends, block-gives, block-within, closed-gives, closed-none, done-gives, run-of, running, steps-end, steps-more, steps-start}
use Rattle.koika_check.proofs.Chains.{chain-ends, chain-ends-joined, chain-gives, chain-more, chain-start, chain-stops, joining, started}
use Rattle.koika_check.proofs.Choices.{choice-checks, last-checks}
use Rattle.koika_check.proofs.Composed.{behind-known, call-checks, inside-gives, made-checks, named-stands, named-yields, number-gives, one-part, same-checks, second-part, tells-checks, then-in, unpack-checks, unpack-ends}
use Rattle.koika_check.proofs.ExpressionParts.{expression-Abort, expression-Array, expression-Block, expression-Call, expression-Chain, expression-Compare, expression-Extend, expression-Literal, expression-Member, expression-Name, expression-Pack, expression-Parentheses, expression-Postfix, expression-Read, expression-Struct, expression-Unary, expression-Unpack, expression-Update, expression-Write}
use Rattle.koika_check.proofs.Growth.{checker-of, part-grows}
use Rattle.koika_check.proofs.PartTypes.{part-shape}
use Rattle.koika_check.proofs.PartsInOrder.{array-gives, arms-ends, arms-ends-body, arms-more, arms-none, fields-ends, fields-more, struct-gives, values-ends, values-more}
use Rattle.koika_check.proofs.Telling.{tells-found}
use Rattle.koika_check.proofs.Turns.{ends-bind, ends-same}
use Rattle.koika_check.proofs.checker.Checker.+expression.Goals as goal

pub prefixed-returns : goal.prefixed-returns
prefixed-returns t c =
    one-part c.args.self.now c.expression.new.self (expression_in c.args.operand.now (scope_of c.args.self.now)) (λ d. unary c.args.prefixes.now) c.in_ok-operand.operand c.unary.result c.in_ok-operand.ensures c.unary.ensures

pub suffixed-returns : goal.suffixed-returns
suffixed-returns t c =
    one-part c.args.self.now c.expression.new.self (expression_in c.args.primary.now (scope_of c.args.self.now)) (λ d. postfix d c.args.suffixes.now) c.in_ok-primary.primary c.postfix.result c.in_ok-primary.ensures c.postfix.ensures

pub pack-returns : goal.pack-returns
pack-returns t c =
    one-part c.args.self.now c.expression.new.self (expression_in c.args.value.now (scope_of c.args.self.now)) (λ d. packed d c.args.place) c.in_ok-value.value c.packed.result c.in_ok-value.ensures c.packed.ensures

pub extend-returns : goal.extend-returns
extend-returns t c =
    one-part c.args.self.now c.expression.new.self (expression_in c.args.value.now (scope_of c.args.self.now)) (λ d. extended c.args.place c.args.extension c.args.width) c.in_ok-value.value c.extended.result c.in_ok-value.ensures c.extended.ensures

pub parenthesized-returns : goal.parenthesized-returns
parenthesized-returns t c =
    inside-gives c.args.self.now c.expression.new.self c.args.place (expression_in c.args.inside.now (scope_of c.args.self.now)) c.in_ok-inside.inside c.at.result c.in_ok-inside.ensures c.at.ensures

pub compare-comparison-requires-clause-left : goal.compare-comparison-requires-clause-left
compare-comparison-requires-clause-left t c =
    part-grows c.args.self.now c.expression.new.self c.in_ok-right.ensures.grows c.args.left.part c.requires.left

pub compare-returns : goal.compare-returns
compare-returns t c =
    second-part c.args.self.now c.expression.new.self (expression_in c.args.right.now (scope_of c.args.self.now)) (λ d. comparison c.args.place c.args.comparison) c.args.left c.in_ok-right.right c.comparison.result c.requires.left c.in_ok-right.ensures c.comparison.ensures

pub update-updated-requires-clause-old : goal.update-updated-requires-clause-old
update-updated-requires-clause-old t c =
    part-grows c.args.self.now c.expression.new.self c.in_ok-value.ensures.grows c.args.whole.part c.requires.whole

pub update-returns : goal.update-returns
update-returns t c =
    second-part c.args.self.now c.expression.new.self (expression_in c.args.value.now (scope_of c.args.self.now)) (λ d. updated d c.args.place c.args.part.now) c.args.whole c.in_ok-value.value c.updated.result c.requires.whole c.in_ok-value.ensures c.updated.ensures

pub unpack-returns-in_err-value : goal.unpack-returns-in_err-value
unpack-returns-in_err-value t c =
    let p = err_from_is_err_and c.from_residual-in_err-value.result c.from_residual-in_err-value.ensures.1 in
    rw (p.1, p.2)
    (unpack-ends c.args.self.now c.named_type.new.self (type_of c.args.self.now.design c.args.to.now) (expression_in c.args.value.now) (unpacked c.args.self.now.design c.args.place) c.in_ok-to.to _
    (named-yields c.args.self.now c.named_type.new.self (type_of c.args.self.now.design c.args.to.now) c.in_ok-to.to (checker-of c.args.self.now c.requires) c.in_ok-to.ensures.kept c.in_ok-to.ensures.grows c.in_ok-to.ensures.locals c.in_ok-to.ensures.tells) c.in_err-value.ensures)

pub unpack-unpacked-requires-clause-to : goal.unpack-unpacked-requires-clause-to
unpack-unpacked-requires-clause-to t c =
    named-stands c.args.self.now c.named_type.new.self c.expression.new.self (type_of c.args.self.now.design c.args.to.now) c.in_ok-to.to
    (named-yields c.args.self.now c.named_type.new.self (type_of c.args.self.now.design c.args.to.now) c.in_ok-to.to (checker-of c.args.self.now c.requires) c.in_ok-to.ensures.kept c.in_ok-to.ensures.grows c.in_ok-to.ensures.locals c.in_ok-to.ensures.tells) c.in_ok-value.ensures.grows

pub unpack-returns : goal.unpack-returns
unpack-returns t c =
    unpack-checks c.args.self.now c.named_type.new.self c.expression.new.self c.args.place (type_of c.args.self.now.design c.args.to.now) (expression_in c.args.value.now) c.in_ok-to.to c.in_ok-value.value c.unpacked.result
    (named-yields c.args.self.now c.named_type.new.self (type_of c.args.self.now.design c.args.to.now) c.in_ok-to.to (checker-of c.args.self.now c.requires) c.in_ok-to.ensures.kept c.in_ok-to.ensures.grows c.in_ok-to.ensures.locals c.in_ok-to.ensures.tells) c.in_ok-value.ensures c.unpacked.ensures

pub values-returns-in_err-one : goal.values-returns-in_err-one
values-returns-in_err-one t c =
    let p = err_from_is_err_and c.from_residual.result c.from_residual.ensures.1 in
    rw (p.1, p.2)
    (values-ends c.args.self.now c.loop-value.self c.args.values.now c.loop-value.value-index c.value-item.result (record { parts = c.loop-value.parts; typed = c.loop-value.typed }) _ (omega arith) c.value-item.is c.loop-value.invariant c.in_err-one.ensures)

pub values-loop-value-preserved : goal.values-loop-value-preserved
values-loop-value-preserved t c =
    rw (c.in_ok-push.ensures.ok, c.in_ok-push-2.ensures.ok)
    (values-more c.args.self.now c.loop-value.self c.expression.new.self c.args.values.now c.loop-value.value-index c.value-item.result (record { parts = c.loop-value.parts; typed = c.loop-value.typed }) c.in_ok-one.one
    (omega arith) c.value-item.is c.loop-value.invariant c.in_ok-one.ensures)

pub called_with-returns : goal.called_with-returns
called_with-returns t c =
    call-checks c.args.self.now c.values.new.self c.args.name.now (called c.args.self.now.design c.args.name.now) (in_turn (λ e. expression_in e (scope_of c.args.self.now)) c.args.arguments.now) c.in_ok-called.called c.in_ok-values.values c.call.result
    c.in_ok-called.ensures c.in_ok-values.ensures c.call.ensures

pub array-returns : goal.array-returns
array-returns t c =
    let new = c.values.new.self in
    array-gives c.args.self.now new c.array_of.new.self c.args.place (in_turn (λ e. expression_in e (scope_of c.args.self.now)) c.args.elements.now) c.in_ok-values.values c.in_ok-part.part c.at.result c.in_ok-values.ensures
    (subst (λ ps. Yields (IsPartIn (scope_of new)) new (array_of new.design c.args.place (map (part_of (arrays_of new)) ps)) c.array_of.new.self c.in_ok-part.part) c.as_slice.ensures c.in_ok-part.ensures)
    c.at.ensures

pub write-returns : goal.write-returns
write-returns t c =
    let n = c.in_ok-register.register in
    behind-known (IsTyping (scope_of c.args.self.now)) c.args.self.now c.expression.new.self (register c.args.self.now.design c.args.register.now) (λ m. expression_in c.args.value.now (scope_of c.args.self.now) >>= written c.args.self.now.design c.args.place c.args.port m) n c.written.result
    (number-gives (register c.args.self.now.design c.args.register.now) n c.in_ok-register.ensures.found)
    (one-part c.args.self.now c.expression.new.self (expression_in c.args.value.now (scope_of c.args.self.now)) (λ d. written d c.args.place c.args.port n) c.in_ok-value.value c.written.result c.in_ok-value.ensures c.written.ensures)

pub chain-returns-in_err-right : goal.chain-returns-in_err-right
chain-returns-in_err-right t c =
    let p = err_from_is_err_and c.from_residual-in_err-right.result c.from_residual-in_err-right.ensures.1 in
    rw (p.1, p.2)
    (chain-stops (scope_of c.args.self.now) c.args.rest.now (typing_of c.args.self.now c.args.first) _
    (chain-ends c.args.self.now c.loop-operand.self (started (typing_of c.args.self.now c.args.first)) c.args.rest.now c.loop-operand.operand-index c.operand-item.result (record { left = c.loop-operand.left; operators = c.loop-operand.operators; operands = c.loop-operand.operands }) _ (omega arith) c.operand-item.is c.loop-operand.invariant c.in_err-right.ensures))

pub chain-returns-in_err-of : goal.chain-returns-in_err-of
chain-returns-in_err-of t c =
    let p = err_from_is_err_and c.from_residual-in_err-of.result c.from_residual-in_err-of.ensures.1 in
    let new = c.expression.new.self in
    rw (p.1, p.2)
    (chain-stops (scope_of c.args.self.now) c.args.rest.now (typing_of c.args.self.now c.args.first) _
    (chain-ends-joined c.args.self.now c.loop-operand.self new (started (typing_of c.args.self.now c.args.first)) c.args.rest.now c.loop-operand.operand-index c.operand-item.result (record { left = c.loop-operand.left; operators = c.loop-operand.operators; operands = c.loop-operand.operands }) c.in_ok-right.right _ (omega arith) c.operand-item.is c.loop-operand.invariant c.in_ok-right.ensures
    (c.in_err-of.ensures (arrays_of new) c.in_ok-right.ensures.kept.shapes.arrays
    (part-shape new c.loop-operand.left.of (part-grows c.loop-operand.self new c.in_ok-right.ensures.grows c.loop-operand.left c.loop-operand.invariant.means.means.type)) (part-shape new c.in_ok-right.right.part.of c.in_ok-right.ensures.means.type))))

pub chain-loop-operand-init : goal.chain-loop-operand-init
chain-loop-operand-init t c =
    rw (c.in_ok-push.ensures.ok, c.new-operators.ensures, c.new-operands.ensures) (chain-start c.args.self.now (checker-of c.args.self.now c.requires.checker) c.args.first c.requires.first)

pub chain-loop-operand-preserved : goal.chain-loop-operand-preserved
chain-loop-operand-preserved t c =
    let new = c.expression.new.self in
    rw (c.in_ok-push-2.ensures.ok, c.in_ok-push-3.ensures.ok)
    (chain-more c.args.self.now c.loop-operand.self new (started (typing_of c.args.self.now c.args.first)) c.args.rest.now c.loop-operand.operand-index c.operand-item.result (record { left = c.loop-operand.left; operators = c.loop-operand.operators; operands = c.loop-operand.operands }) c.in_ok-right.right c.in_ok-of.of (omega arith) c.operand-item.is c.loop-operand.invariant c.in_ok-right.ensures
    (c.in_ok-of.ensures (arrays_of new) c.in_ok-right.ensures.kept.shapes.arrays
    (part-shape new c.loop-operand.left.of (part-grows c.loop-operand.self new c.in_ok-right.ensures.grows c.loop-operand.left c.loop-operand.invariant.means.means.type)) (part-shape new c.in_ok-right.right.part.of c.in_ok-right.ensures.means.type)))

pub chain-returns : goal.chain-returns
chain-returns t c =
    chain-gives c.args.self.now c.loop-operand.self c.args.rest.now (typing_of c.args.self.now c.args.first) c.width_if-width.result (record { left = c.loop-operand.left; operators = c.loop-operand.operators; operands = c.loop-operand.operands }) c.at.result
    (subst (λ xs. Yields (In IsChained (scope_of c.args.self.now)) c.args.self.now (one_by_one (joining (scope_of c.args.self.now)) xs (started (typing_of c.args.self.now c.args.first))) c.loop-operand.self (record { left = c.loop-operand.left; operators = c.loop-operand.operators; operands = c.loop-operand.operands })) (take_all c.loop-operand.operand-index c.args.rest.now c.loop-operand-test.false) c.loop-operand.invariant)
    c.width_if-width.ensures c.at.ensures

pub structure-returns : goal.structure-returns
structure-returns t c =
    let n = c.in_ok-number.number in
    let fault = wrong UNKNOWN_NAME c.args.of.now.place in
    let struct = found (number_named kind.Struct c.args.self.now.design c.args.of.now.text) fault in
    let fields = in_turn (λ f. field_value_in f (scope_of c.args.self.now)) c.args.fields.now in
    let new = c.fields.new.self in
    let h = c.in_ok-fields.ensures in
    behind-known (IsTyping (scope_of c.args.self.now)) c.args.self.now new struct (λ m. fields >>= struct_in c.args.self.now.design m c.args.of.now.place c.args.close) n (Ok c.at.result)
    (ap (λ o. found o fault) (tells-found _ fault n c.in_ok-number.ensures.found))
    (struct-gives c.args.self.now new n c.args.of.now.place c.args.close fields c.in_ok-fields.fields c.in_ok-part.part c.at.result h
    (c.in_ok-part.ensures (map given_of h.value) (subst (λ g. AreGiven new (fields_of new.design n) (fields_of new.design n) g (map given_of h.value)) (sym c.as_slice.ensures) h.means.means.given)) c.at.ensures)

pub fields-returns-in_err-value : goal.fields-returns-in_err-value
fields-returns-in_err-value t c =
    let p = err_from_is_err_and c.from_residual.result c.from_residual.ensures.1 in
    rw (p.1, p.2)
    (fields-ends c.args.self.now c.loop-index.self c.args.number c.args.fields.now c.loop-index.index c.index-fields-index.result (record { given = c.loop-index.given; typed = c.loop-index.typed }) _ c.loop-index-test.true c.index-fields-index.is c.loop-index.invariant.1 c.in_err-value.ensures)

pub fields-loop-index-preserved : goal.fields-loop-index-preserved
fields-loop-index-preserved t c =
    let long : length (c.loop-index.given ++ c.in_ok-given.field-0 ∷ []) ≡ c.loop-index.index + 1 = omega (arith, length-append c.loop-index.given (c.in_ok-given.field-0 ∷ []), c.loop-index.invariant.0) in
    rw (c.in_ok-push.ensures.ok, c.in_ok-push-2.ensures.ok) (
      long,
      fields-more c.args.self.now c.loop-index.self c.expression.new.self c.args.number c.args.fields.now c.loop-index.index c.index-fields-index.result (record { given = c.loop-index.given; typed = c.loop-index.typed }) c.in_ok-value.value c.in_ok-given.field-0
          c.loop-index-test.true c.index-fields-index.is c.loop-index.invariant.0 c.loop-index.invariant.1 c.in_ok-value.ensures c.in_ok-given.ensures,
    )

pub choice-returns-in_err-last : goal.choice-returns-in_err-last
choice-returns-in_err-last t c xs h =
    let p = err_from_is_err_and c.from_residual.result c.from_residual.ensures.1 in
    rw (p.1, p.2) (ends-bind (otherwise_in (scope_of c.args.self.now) (option_map block_in c.args.otherwise.now)) (conditional xs) _ c.in_err-last.ensures)

pub choice-returns : goal.choice-returns
choice-returns t c xs h = last-checks c.args.self.now c.otherwise.new.self (option_map block_in c.args.otherwise.now) c.args.arms xs c.in_ok-last.last c.conditional.result h c.in_ok-last.ensures c.conditional.ensures

pub arms-returns-in_err-expression : goal.arms-returns-in_err-expression
arms-returns-in_err-expression t c =
    let p = err_from_is_err_and c.from_residual.result c.from_residual.ensures.1 in
    rw (p.1, p.2)
    (arms-ends c.args.self.now c.loop-arm.self c.args.arms.now c.loop-arm.arm-index c.arm-item.result (record { place = c.loop-arm.place; conditions = c.loop-arm.conditions; bodies = c.loop-arm.bodies }) _ (omega arith) c.arm-item.is c.loop-arm.invariant c.in_err-expression.ensures)

pub arms-returns-in_err-block : goal.arms-returns-in_err-block
arms-returns-in_err-block t c =
    let p = err_from_is_err_and c.from_residual-in_err-block.result c.from_residual-in_err-block.ensures.1 in
    rw (p.1, p.2)
    (arms-ends-body c.args.self.now c.loop-arm.self c.expression.new.self c.args.arms.now c.loop-arm.arm-index c.arm-item.result (record { place = c.loop-arm.place; conditions = c.loop-arm.conditions; bodies = c.loop-arm.bodies }) c.in_ok-expression.field-0 _ (omega arith) c.arm-item.is c.loop-arm.invariant c.in_ok-expression.ensures c.in_err-block.ensures)

pub arms-loop-arm-preserved : goal.arms-loop-arm-preserved
arms-loop-arm-preserved t c =
    rw (c.in_ok-push.ensures, c.in_ok-push-2.ensures, c.or-place.ensures)
    (arms-more c.args.self.now c.loop-arm.self c.expression.new.self c.block.new.self c.args.arms.now c.loop-arm.arm-index c.arm-item.result (record { place = c.loop-arm.place; conditions = c.loop-arm.conditions; bodies = c.loop-arm.bodies }) c.in_ok-expression.field-0 c.in_ok-block.field-0
    (omega arith) c.arm-item.is c.loop-arm.invariant c.in_ok-expression.ensures c.in_ok-block.ensures)

pub arms-loop-arm-init : goal.arms-loop-arm-init
arms-loop-arm-init t c =
    rw (c.nothing-conditions.ensures, c.nothing-bodies.ensures) (arms-none c.args.self.now (checker-of c.args.self.now c.requires))

pub block-returns-in_err-steps : goal.block-returns-in_err-steps
block-returns-in_err-steps t c =
    let p = err_from_is_err_and c.from_residual.result c.from_residual.ensures.1 in
    rw (p.1, p.2)
    (ends-same _ _ _ (block-parts c.args.block.now (scope_of c.args.self.now)) (ends-bind (one_by_one running (out-Block c.args.block.now).statements (run-of [] (scope_of c.args.self.now))) _ _ (subst (λ xs. Ends (one_by_one running xs (run-of [] (scope_of c.args.self.now))) c.in_err-steps.field-0.0) c.as_slice.ensures c.in_err-steps.ensures)))

pub block-returns-in_err-typing : goal.block-returns-in_err-typing
block-returns-in_err-typing t c =
    let p = err_from_is_err_and c.from_residual-in_err-typing.result c.from_residual-in_err-typing.ensures.1 in
    rw (p.1, p.2)
    (ends-same _ _ _ (block-parts c.args.block.now (scope_of c.args.self.now)) (block-ends c.args.self.now c.steps.new.self (one_by_one running (out-Block c.args.block.now).statements (run-of [] (scope_of c.args.self.now))) (out-Block c.args.block.now).place (option_map expression_in (out-Block c.args.block.now).value) c.in_ok-steps.steps _ (subst (λ xs. Yields (AreSteps (scope_of c.args.self.now)) c.args.self.now (one_by_one running xs (run-of [] (scope_of c.args.self.now))) c.steps.new.self c.in_ok-steps.steps) c.as_slice.ensures c.in_ok-steps.ensures) c.in_err-typing.ensures))

pub block-leave-requires-clause-bound : goal.block-leave-requires-clause-bound
block-leave-requires-clause-bound t c =
    omega (arith, c.bound-bound.ensures, block-within c.args.self.now c.steps.new.self c.closed.new.self _ _ c.in_ok-steps.steps c.in_ok-typing.typing c.in_ok-steps.ensures c.in_ok-typing.ensures)

pub block-returns : goal.block-returns
block-returns t c =
    same-checks (IsTyping (scope_of c.args.self.now)) c.args.self.now _ (block_in c.args.block.now (scope_of c.args.self.now)) _ (Ok c.in_ok-typing.typing) (block-parts c.args.block.now (scope_of c.args.self.now))
    (block-gives c.args.self.now c.steps.new.self c.closed.new.self (one_by_one running (out-Block c.args.block.now).statements (run-of [] (scope_of c.args.self.now))) (out-Block c.args.block.now).place (option_map expression_in (out-Block c.args.block.now).value) c.in_ok-steps.steps c.in_ok-typing.typing c.leave.new.self c.bound-bound.result
    (subst (λ xs. Yields (AreSteps (scope_of c.args.self.now)) c.args.self.now (one_by_one running xs (run-of [] (scope_of c.args.self.now))) c.steps.new.self c.in_ok-steps.steps) c.as_slice.ensures c.in_ok-steps.ensures) c.in_ok-typing.ensures c.bound-bound.ensures c.leave.ensures.kept c.leave.ensures.left c.leave.ensures.shapes)

pub closed-returns-in-None : goal.closed-returns-in-None
closed-returns-in-None t c =
    let s = c.args.steps in
    subst (λ v. Yields (IsTyping (scope_of c.args.self.now)) c.args.self.now (close c.args.place (option_map expression_in v) (run-of s (scope_of c.args.self.now))) c.args.self.now c.at.result) (sym c.in-None.is)
    (closed-none c.args.self.now (checker-of c.args.self.now c.requires) c.args.place s c.at.result c.at.ensures)

pub closed-returns-in_ok-push-in-Some : goal.closed-returns-in_ok-push-in-Some
closed-returns-in_ok-push-in-Some t c =
    let s = c.args.steps in
    let y = subst (λ e. Yields (IsTyping (scope_of c.args.self.now)) c.args.self.now (expression_in e (scope_of c.args.self.now)) c.expression.new.self c.in_ok-last-in-Some.last) c.get.ensures c.in_ok-last-in-Some.ensures in
    subst (λ v. Yields (IsTyping (scope_of c.args.self.now)) c.args.self.now (close c.args.place (option_map expression_in v) (run-of s (scope_of c.args.self.now))) c.expression.new.self c.at-in-Some.result) (sym c.in-Some.is)
    (closed-gives c.args.self.now c.expression.new.self c.args.place s c.push.new.self c.in-Some.last c.in_ok-last-in-Some.last c.at-in-Some.result y c.in_ok-push-in-Some.ensures.ok c.at-in-Some.ensures)

pub statement-returns-in_err-value-in-Let : goal.statement-returns-in_err-value-in-Let
statement-returns-in_err-value-in-Let t c =
    let p = err_from_is_err_and c.from_residual.result c.from_residual.ensures.1 in
    rw (p.1, p.2)
    (ends-same _ _ _ (ap (λ s. statement_in s (scope_of c.args.self.now)) c.in-Let.is ∙ statement-Let c.in-Let.name c.in-Let.value (scope_of c.args.self.now)) (ends-bind (expression_in c.in-Let.value (scope_of c.args.self.now)) (bound_step c.in-Let.name (scope_of c.args.self.now)) _ c.in_err-value-in-Let.ensures))

pub statement-returns-in_err-expression-in-Do : goal.statement-returns-in_err-expression-in-Do
statement-returns-in_err-expression-in-Do t c =
    let p = err_from_is_err_and c.from_residual-in_err-expression-in-Do.result c.from_residual-in_err-expression-in-Do.ensures.1 in
    rw (p.1, p.2)
    (ends-same _ _ _ (ap (λ s. statement_in s (scope_of c.args.self.now)) c.in-Do.is ∙ statement-Do c.in-Do.value (scope_of c.args.self.now)) (ends-bind (expression_in c.in-Do.value (scope_of c.args.self.now)) _ _ c.in_err-expression-in-Do.ensures))

pub statement-returns-in_ok-value-in-Let : goal.statement-returns-in_ok-value-in-Let
statement-returns-in_ok-value-in-Let t c =
    same-checks (IsStep (scope_of c.args.self.now)) c.args.self.now c.bound.new.self _ _ c.bound.result (ap (λ s. statement_in s (scope_of c.args.self.now)) c.in-Let.is ∙ statement-Let c.in-Let.name c.in-Let.value (scope_of c.args.self.now))
    (then-in IsStep c.args.self.now c.expression.new.self c.bound.new.self (expression_in c.in-Let.value (scope_of c.args.self.now)) (bound_step c.in-Let.name) c.in_ok-value-in-Let.value c.bound.result c.in_ok-value-in-Let.ensures c.bound.ensures)

pub statement-returns-in_ok-expression-in-Do : goal.statement-returns-in_ok-expression-in-Do
statement-returns-in_ok-expression-in-Do t c =
    subst (λ o. Yields (IsStep (scope_of c.args.self.now)) c.args.self.now o c.expression-in-Do.new.self (step.Do c.in_ok-expression-in-Do.field-0.typed)) (sym (ap (λ s. statement_in s (scope_of c.args.self.now)) c.in-Do.is ∙ statement-Do c.in-Do.value (scope_of c.args.self.now)))
    (done-gives c.args.self.now c.expression-in-Do.new.self (expression_in c.in-Do.value (scope_of c.args.self.now)) c.in_ok-expression-in-Do.field-0 c.in_ok-expression-in-Do.ensures)

pub steps-returns-in_err-statement : goal.steps-returns-in_err-statement
steps-returns-in_err-statement t c =
    let p = err_from_is_err_and c.from_residual.result c.from_residual.ensures.1 in
    rw (p.1, p.2)
    (steps-end c.args.self.now c.loop-statement.self c.args.statements.now c.loop-statement.statement-index c.statement-item.result c.loop-statement.steps _ (omega arith) c.statement-item.is c.loop-statement.invariant c.in_err-statement.ensures)

pub steps-loop-statement-preserved : goal.steps-loop-statement-preserved
steps-loop-statement-preserved t c =
    rw c.in_ok-push.ensures.ok
    (steps-more c.args.self.now c.loop-statement.self c.statement.new.self c.args.statements.now c.loop-statement.statement-index c.statement-item.result c.loop-statement.steps c.in_ok-statement.field-0
    (omega arith) c.statement-item.is c.loop-statement.invariant c.in_ok-statement.ensures)

pub steps-loop-statement-init : goal.steps-loop-statement-init
steps-loop-statement-init t c =
    rw c.new-steps.ensures (steps-start c.args.self.now (checker-of c.args.self.now c.requires))

pub expression-returns-in-Literal : goal.expression-returns-in-Literal
expression-returns-in-Literal t c =
    made-checks c.args.self.now (checker-of c.args.self.now c.requires) _ _ c.literal.result (ap (λ e. expression_in e (scope_of c.args.self.now)) c.in-Literal.is ∙ expression-Literal c.in-Literal.value (scope_of c.args.self.now)) (c.literal.ensures c.args.self.now)

pub expression-returns-in-Name : goal.expression-returns-in-Name
expression-returns-in-Name t c =
    same-checks (IsTyping (scope_of c.args.self.now)) c.args.self.now c.args.self.now _ _ c.named.result (ap (λ e. expression_in e (scope_of c.args.self.now)) c.in-Name.is ∙ expression-Name c.in-Name.name (scope_of c.args.self.now))
    (tells-checks c.args.self.now (scope_of c.args.self.now) _ c.named.result (checker-of c.args.self.now c.requires) refl c.named.ensures)

pub expression-returns-in-Member : goal.expression-returns-in-Member
expression-returns-in-Member t c =
    same-checks (IsTyping (scope_of c.args.self.now)) c.args.self.now c.args.self.now _ _ c.member_typing.result (ap (λ e. expression_in e (scope_of c.args.self.now)) c.in-Member.is ∙ expression-Member c.in-Member.of c.in-Member.member (scope_of c.args.self.now))
    (tells-checks c.args.self.now (scope_of c.args.self.now) _ c.member_typing.result (checker-of c.args.self.now c.requires) refl c.member_typing.ensures)

pub expression-returns-in_err-first-in-Chain : goal.expression-returns-in_err-first-in-Chain
expression-returns-in_err-first-in-Chain t c =
    let p = err_from_is_err_and c.from_residual.result c.from_residual.ensures.1 in
    rw (p.1, p.2)
    (ends-same _ _ _ (ap (λ e. expression_in e (scope_of c.args.self.now)) c.in-Chain.is ∙ expression-Chain c.in-Chain.first c.in-Chain.rest (scope_of c.args.self.now) ∙ ap (λ e. expression_in e (scope_of c.args.self.now) >>= chain_in (scope_of c.args.self.now) (map operand_in c.in-Chain.rest)) (sym c.get.ensures)) (ends-bind (expression_in c.get.result.now (scope_of c.args.self.now)) _ _ c.in_err-first-in-Chain.ensures))

pub expression-returns-in_ok-first-in-Chain : goal.expression-returns-in_ok-first-in-Chain
expression-returns-in_ok-first-in-Chain t c =
    same-checks (IsTyping (scope_of c.args.self.now)) c.args.self.now c.chain.new.self _ _ c.chain.result
    (ap (λ e. expression_in e (scope_of c.args.self.now)) c.in-Chain.is ∙ expression-Chain c.in-Chain.first c.in-Chain.rest (scope_of c.args.self.now) ∙ ap₂ (λ e os. expression_in e (scope_of c.args.self.now) >>= chain_in (scope_of c.args.self.now) (map operand_in os)) (sym c.get.ensures) (sym c.as_slice.ensures))
    (then-in IsTyping c.args.self.now c.expression.new.self c.chain.new.self (expression_in c.get.result.now (scope_of c.args.self.now)) (λ s. chain_in s (map operand_in c.as_slice.result.now)) c.in_ok-first-in-Chain.first c.chain.result c.in_ok-first-in-Chain.ensures c.chain.ensures)

pub expression-returns-in_err-arms-in-If : goal.expression-returns-in_err-arms-in-If
expression-returns-in_err-arms-in-If t c =
    let p = err_from_is_err_and c.from_residual-in_err-arms-in-If.result c.from_residual-in_err-arms-in-If.ensures.1 in
    rw (p.1, p.2)
    (ends-same _ _ _ (ap (λ e. expression_in e (scope_of c.args.self.now)) c.in-If.is ∙ expression-If c.in-If.arms c.in-If.otherwise (scope_of c.args.self.now) ∙ ap (λ xs. in_turn (λ a. arm_in a (scope_of c.args.self.now)) xs >>= λ ys. otherwise_in (scope_of c.args.self.now) (option_map block_in c.in-If.otherwise) >>= conditional ys) (sym c.as_slice-in-If.ensures)) (ends-bind (in_turn (λ a. arm_in a (scope_of c.args.self.now)) c.as_slice-in-If.result.now) _ _ c.in_err-arms-in-If.ensures))

pub expression-returns-in_ok-arms-in-If : goal.expression-returns-in_ok-arms-in-If
expression-returns-in_ok-arms-in-If t c =
    same-checks (IsTyping (scope_of c.args.self.now)) c.args.self.now c.choice.new.self _ _ c.choice.result (ap (λ e. expression_in e (scope_of c.args.self.now)) c.in-If.is ∙ expression-If c.in-If.arms c.in-If.otherwise (scope_of c.args.self.now) ∙ ap (λ xs. in_turn (λ a. arm_in a (scope_of c.args.self.now)) xs >>= λ ys. otherwise_in (scope_of c.args.self.now) (option_map block_in c.in-If.otherwise) >>= conditional ys) (sym c.as_slice-in-If.ensures))
    (choice-checks c.args.self.now c.arms.new.self c.choice.new.self (in_turn (λ a. arm_in a (scope_of c.args.self.now)) c.as_slice-in-If.result.now) (option_map block_in c.in-If.otherwise) c.in_ok-arms-in-If.arms c.choice.result c.in_ok-arms-in-If.ensures c.choice.ensures)

pub expression-returns-in-Call : goal.expression-returns-in-Call
expression-returns-in-Call t c =
    same-checks (IsTyping (scope_of c.args.self.now)) c.args.self.now c.called_with.new.self _ _ c.called_with.result
    (ap (λ e. expression_in e (scope_of c.args.self.now)) c.in-Call.is ∙ expression-Call c.in-Call.called c.in-Call.arguments (scope_of c.args.self.now) ∙ ap (λ xs. called c.args.self.now.design c.in-Call.called >>= λ k. in_turn (λ e. expression_in e (scope_of c.args.self.now)) xs >>= call c.in-Call.called k) (sym c.as_slice-in-Call.ensures)) c.called_with.ensures

pub expression-returns-in-Struct : goal.expression-returns-in-Struct
expression-returns-in-Struct t c =
    same-checks (IsTyping (scope_of c.args.self.now)) c.args.self.now c.structure.new.self _ _ c.structure.result
    (ap (λ e. expression_in e (scope_of c.args.self.now)) c.in-Struct.is ∙ expression-Struct c.in-Struct.of c.in-Struct.fields c.in-Struct.close (scope_of c.args.self.now) ∙ ap (λ xs. found (number_named kind.Struct c.args.self.now.design c.in-Struct.of.text) (wrong UNKNOWN_NAME c.in-Struct.of.place) >>= λ n. in_turn (λ f. field_value_in f (scope_of c.args.self.now)) xs >>= struct_in c.args.self.now.design n c.in-Struct.of.place c.in-Struct.close) (sym c.as_slice-in-Struct.ensures)) c.structure.ensures

pub expression-returns-in-Array : goal.expression-returns-in-Array
expression-returns-in-Array t c =
    same-checks (IsTyping (scope_of c.args.self.now)) c.args.self.now c.array.new.self _ _ c.array.result
    (ap (λ e. expression_in e (scope_of c.args.self.now)) c.in-Array.is ∙ expression-Array c.in-Array.place c.in-Array.elements (scope_of c.args.self.now) ∙ ap (λ xs. in_turn (λ e. expression_in e (scope_of c.args.self.now)) xs >>= array_in c.args.self.now.design c.in-Array.place) (sym c.as_slice-in-Array.ensures)) c.array.ensures

pub expression-returns-in-Block : goal.expression-returns-in-Block
expression-returns-in-Block t c =
    same-checks (IsTyping (scope_of c.args.self.now)) c.args.self.now c.block.new.self _ _ c.block.result
    (ap (λ e. expression_in e (scope_of c.args.self.now)) c.in-Block.is ∙ expression-Block c.in-Block.block (scope_of c.args.self.now)) c.block.ensures

pub expression-returns-in-Write : goal.expression-returns-in-Write
expression-returns-in-Write t c =
    same-checks (IsTyping (scope_of c.args.self.now)) c.args.self.now c.write.new.self _ _ c.write.result
    (ap (λ e. expression_in e (scope_of c.args.self.now)) c.in-Write.is ∙ expression-Write c.in-Write.place c.in-Write.port c.in-Write.register c.in-Write.value (scope_of c.args.self.now) ∙ ap (λ e. register c.args.self.now.design c.in-Write.register >>= λ n. expression_in e (scope_of c.args.self.now) >>= written c.args.self.now.design c.in-Write.place c.in-Write.port n) (sym c.get-in-Write.ensures)) c.write.ensures

pub expression-returns-in-Unary : goal.expression-returns-in-Unary
expression-returns-in-Unary t c =
    same-checks (IsTyping (scope_of c.args.self.now)) c.args.self.now c.prefixed.new.self _ _ c.prefixed.result
    (ap (λ e. expression_in e (scope_of c.args.self.now)) c.in-Unary.is ∙ expression-Unary c.in-Unary.prefixes c.in-Unary.operand (scope_of c.args.self.now) ∙ ap₂ (λ e ps. expression_in e (scope_of c.args.self.now) >>= unary ps) (sym c.get-in-Unary.ensures) (sym c.as_slice-in-Unary.ensures)) c.prefixed.ensures

pub expression-returns-in-Postfix : goal.expression-returns-in-Postfix
expression-returns-in-Postfix t c =
    same-checks (IsTyping (scope_of c.args.self.now)) c.args.self.now c.suffixed.new.self _ _ c.suffixed.result
    (ap (λ e. expression_in e (scope_of c.args.self.now)) c.in-Postfix.is ∙ expression-Postfix c.in-Postfix.primary c.in-Postfix.suffixes (scope_of c.args.self.now) ∙ ap₂ (λ e ps. expression_in e (scope_of c.args.self.now) >>= postfix c.args.self.now.design ps) (sym c.get-in-Postfix.ensures) (sym c.as_slice-in-Postfix.ensures)) c.suffixed.ensures

pub expression-returns-in-Parentheses : goal.expression-returns-in-Parentheses
expression-returns-in-Parentheses t c =
    same-checks (IsTyping (scope_of c.args.self.now)) c.args.self.now c.parenthesized.new.self _ _ c.parenthesized.result
    (ap (λ e. expression_in e (scope_of c.args.self.now)) c.in-Parentheses.is ∙ expression-Parentheses c.in-Parentheses.place c.in-Parentheses.inside (scope_of c.args.self.now) ∙ ap (λ e. expression_in e (scope_of c.args.self.now) >>= λ inner. Gives (typing inner.part.of c.in-Parentheses.place inner.typed)) (sym c.get-in-Parentheses.ensures)) c.parenthesized.ensures

pub expression-returns-in-Read : goal.expression-returns-in-Read
expression-returns-in-Read t c =
    same-checks (IsTyping (scope_of c.args.self.now)) c.args.self.now c.args.self.now _ _ c.read.result (ap (λ e. expression_in e (scope_of c.args.self.now)) c.in-Read.is ∙ expression-Read c.in-Read.place c.in-Read.port c.in-Read.register (scope_of c.args.self.now))
    (tells-checks c.args.self.now (scope_of c.args.self.now) _ c.read.result (checker-of c.args.self.now c.requires) refl c.read.ensures)

pub expression-returns-in-Abort : goal.expression-returns-in-Abort
expression-returns-in-Abort t c =
    made-checks c.args.self.now (checker-of c.args.self.now c.requires) _ _ c.abort_at.result (ap (λ e. expression_in e (scope_of c.args.self.now)) c.in-Abort.is ∙ expression-Abort c.in-Abort.place (scope_of c.args.self.now)) (c.abort_at.ensures c.args.self.now)

pub expression-returns-in-Pack : goal.expression-returns-in-Pack
expression-returns-in-Pack t c =
    same-checks (IsTyping (scope_of c.args.self.now)) c.args.self.now c.pack.new.self _ _ c.pack.result
    (ap (λ e. expression_in e (scope_of c.args.self.now)) c.in-Pack.is ∙ expression-Pack c.in-Pack.place c.in-Pack.value (scope_of c.args.self.now) ∙ ap (λ e. expression_in e (scope_of c.args.self.now) >>= packed c.args.self.now.design c.in-Pack.place) (sym c.get-in-Pack.ensures)) c.pack.ensures

pub expression-returns-in-Unpack : goal.expression-returns-in-Unpack
expression-returns-in-Unpack t c =
    same-checks (IsTyping (scope_of c.args.self.now)) c.args.self.now c.unpack.new.self _ _ c.unpack.result
    (ap (λ e. expression_in e (scope_of c.args.self.now)) c.in-Unpack.is ∙ expression-Unpack c.in-Unpack.place c.in-Unpack.to c.in-Unpack.value (scope_of c.args.self.now) ∙ ap (λ e. type_of c.args.self.now.design c.in-Unpack.to >>= λ of. expression_in e (scope_of c.args.self.now) >>= unpacked c.args.self.now.design c.in-Unpack.place of) (sym c.get-in-Unpack.ensures)) c.unpack.ensures

pub expression-returns-in-Extend : goal.expression-returns-in-Extend
expression-returns-in-Extend t c =
    same-checks (IsTyping (scope_of c.args.self.now)) c.args.self.now c.extend.new.self _ _ c.extend.result
    (ap (λ e. expression_in e (scope_of c.args.self.now)) c.in-Extend.is ∙ expression-Extend c.in-Extend.place c.in-Extend.extension c.in-Extend.value c.in-Extend.width (scope_of c.args.self.now) ∙ ap (λ e. expression_in e (scope_of c.args.self.now) >>= extended c.in-Extend.place c.in-Extend.extension c.in-Extend.width) (sym c.get-in-Extend.ensures)) c.extend.ensures

pub expression-returns-in_err-left-in-Compare : goal.expression-returns-in_err-left-in-Compare
expression-returns-in_err-left-in-Compare t c =
    let p = err_from_is_err_and c.from_residual-in_err-left-in-Compare.result c.from_residual-in_err-left-in-Compare.ensures.1 in
    rw (p.1, p.2)
    (ends-same _ _ _ (ap (λ e. expression_in e (scope_of c.args.self.now)) c.in-Compare.is ∙ expression-Compare c.in-Compare.place c.in-Compare.comparison c.in-Compare.left c.in-Compare.right (scope_of c.args.self.now) ∙ ap (λ e. expression_in e (scope_of c.args.self.now) >>= λ one. expression_in c.in-Compare.right (scope_of c.args.self.now) >>= comparison c.in-Compare.place c.in-Compare.comparison one) (sym c.get-in-Compare.ensures)) (ends-bind (expression_in c.get-in-Compare.result.now (scope_of c.args.self.now)) _ _ c.in_err-left-in-Compare.ensures))

pub expression-returns-in_ok-left-in-Compare : goal.expression-returns-in_ok-left-in-Compare
expression-returns-in_ok-left-in-Compare t c =
    same-checks (IsTyping (scope_of c.args.self.now)) c.args.self.now c.compare.new.self _ _ c.compare.result
    (ap (λ e. expression_in e (scope_of c.args.self.now)) c.in-Compare.is ∙ expression-Compare c.in-Compare.place c.in-Compare.comparison c.in-Compare.left c.in-Compare.right (scope_of c.args.self.now) ∙ ap₂ (λ a b. expression_in a (scope_of c.args.self.now) >>= λ one. expression_in b (scope_of c.args.self.now) >>= comparison c.in-Compare.place c.in-Compare.comparison one) (sym c.get-in-Compare.ensures) (sym c.get-in-Compare-2.ensures))
    (then-in IsTyping c.args.self.now c.expression-in-Compare.new.self c.compare.new.self (expression_in c.get-in-Compare.result.now (scope_of c.args.self.now)) (λ s one. expression_in c.get-in-Compare-2.result.now s >>= comparison c.in-Compare.place c.in-Compare.comparison one) c.in_ok-left-in-Compare.left c.compare.result c.in_ok-left-in-Compare.ensures c.compare.ensures)

pub expression-returns-in_err-whole-in-Update : goal.expression-returns-in_err-whole-in-Update
expression-returns-in_err-whole-in-Update t c =
    let p = err_from_is_err_and c.from_residual-in_err-whole-in-Update.result c.from_residual-in_err-whole-in-Update.ensures.1 in
    rw (p.1, p.2)
    (ends-same _ _ _ (ap (λ e. expression_in e (scope_of c.args.self.now)) c.in-Update.is ∙ expression-Update c.in-Update.place c.in-Update.whole c.in-Update.part c.in-Update.value (scope_of c.args.self.now) ∙ ap (λ e. expression_in e (scope_of c.args.self.now) >>= λ one. expression_in c.in-Update.value (scope_of c.args.self.now) >>= updated c.args.self.now.design c.in-Update.place c.in-Update.part one) (sym c.get-in-Update.ensures)) (ends-bind (expression_in c.get-in-Update.result.now (scope_of c.args.self.now)) _ _ c.in_err-whole-in-Update.ensures))

pub expression-returns-in_ok-whole-in-Update : goal.expression-returns-in_ok-whole-in-Update
expression-returns-in_ok-whole-in-Update t c =
    same-checks (IsTyping (scope_of c.args.self.now)) c.args.self.now c.update.new.self _ _ c.update.result
    (ap (λ e. expression_in e (scope_of c.args.self.now)) c.in-Update.is ∙ expression-Update c.in-Update.place c.in-Update.whole c.in-Update.part c.in-Update.value (scope_of c.args.self.now) ∙ ap₂ (λ a b. expression_in a (scope_of c.args.self.now) >>= λ one. expression_in b (scope_of c.args.self.now) >>= updated c.args.self.now.design c.in-Update.place c.in-Update.part one) (sym c.get-in-Update.ensures) (sym c.get-in-Update-2.ensures))
    (then-in IsTyping c.args.self.now c.expression-in-Update.new.self c.update.new.self (expression_in c.get-in-Update.result.now (scope_of c.args.self.now)) (λ s one. expression_in c.get-in-Update-2.result.now s >>= updated s.design c.in-Update.place c.in-Update.part one) c.in_ok-whole-in-Update.whole c.update.result c.in_ok-whole-in-Update.ensures c.update.ensures)

pub expression-chain-requires : goal.expression-chain-requires
expression-chain-requires t c =
    let whole : c.args.of.now ≡ views.Chain c.in-Chain.first c.in-Chain.rest = c.in-Chain.is in (
      rw c.as_slice.ensures (omega (arith, c.decreases, ap views.size-Expression whole, views.sized-Chain c.in-Chain.first c.in-Chain.rest)),
      (ready c.in_ok-first-in-Chain.ensures.kept, c.in_ok-first-in-Chain.ensures.means.type),
    )
