use Rattle.std.proofs.Common.{List, [], ℕ, Option, ◌∷◌, ◌++◌, ◌∙◌, ap, ap₂, sym}
use Rattle.std.proofs.lemmas.Result.{err_from_is_err_and}
use Rattle.koika_check.specs.inner.Checking.{scope_of}
use Rattle.koika_check.specs.Declarations.{function_typed, function_with, result_of, types_in_order}
use Rattle.koika_check.specs.Expressions.{block_in}
use Rattle.koika_check.specs.Outcomes.{◌>>=◌}
use Rattle.koika_check.specs.Types.{agrees}
use Rattle.koika_check.specs.declared.checked.Checked.{Checked}
use Rattle.koika_check.specs.declared.checked.CheckedFunction.{CheckedFunction}
use Rattle.koika_check.specs.declared.typed.Typed.{Typed}
use Rattle.koika_check.specs.declared.typed.ValueType.{ValueType}
use Rattle.koika_check.proofs.Answering.{ends, ends-same, passes-ends, passes-gives}
use Rattle.koika_check.proofs.Growth.{grows-trans, unbound}
use Rattle.koika_check.proofs.Parameters.{body-agrees, function-chain, left-settled, scope-behind, signature}
use Rattle.koika_check.proofs.checker.Checker.function.Goals as goal

pub returns-in_err-typing-clause-answers : goal.returns-in_err-typing-clause-answers
returns-in_err-typing-clause-answers c =
    let p = err_from_is_err_and c.from_residual-in_err-typing.result c.from_residual-in_err-typing.ensures.1 in
    let d = c.args.self.now.design in
    let n = c.args.name.now in
    let new = c.in_ok-is_new.ensures in
    let all = c.in_ok-parameters.ensures in
    let gives = c.in_ok-gives.ensures in
    let s = scope_of c.gives.new.self in
    rw (p.1, p.2)
    (ends (function_with d n c.args.parameters.now c.args.written.now c.args.body.now) (block_in c.args.body.now s) (function_typed n.text all.answers.0 gives.answers.0) _
    (function-chain d n c.args.parameters.now c.args.written.now c.args.body.now new.0 all.answers.0 gives.answers.0 s new.1 new.2.0 all.answers.1 (ap (λ (e : Checked). result_of e c.args.written.now) (sym all.grows.design) ∙ gives.answers.1)
    (scope-behind c.args.self.now c.parameters.new.self c.gives.new.self all.answers.0 all.kept all.grows gives.grows gives.locals all.answers.2.0))
    c.in_err-typing.ensures)

pub returns-in_err-refuse-clause-answers : goal.returns-in_err-refuse-clause-answers
returns-in_err-refuse-clause-answers c =
    let p = err_from_is_err_and c.from_residual-in_err-refuse.result c.from_residual-in_err-refuse.ensures.1 in
    let d = c.args.self.now.design in
    let n = c.args.name.now in
    let new = c.in_ok-is_new.ensures in
    let all = c.in_ok-parameters.ensures in
    let gives = c.in_ok-gives.ensures in
    let y = c.in_ok-typing.ensures in
    let s = scope_of c.gives.new.self in
    let given = gives.answers.0 in
    let function : CheckedFunction = record { name = n.text; parameters = types_in_order all.answers.0; result = given; body = y.value.typed } in
    rw (p.1, p.2)
    (ends-same (function_with d n c.args.parameters.now c.args.written.now c.args.body.now) (function_typed n.text all.answers.0 given y.value) _
    (function-chain d n c.args.parameters.now c.args.written.now c.args.body.now new.0 all.answers.0 given s new.1 new.2.0 all.answers.1 (ap (λ (e : Checked). result_of e c.args.written.now) (sym all.grows.design) ∙ gives.answers.1)
    (scope-behind c.args.self.now c.parameters.new.self c.gives.new.self all.answers.0 all.kept all.grows gives.grows gives.locals all.answers.2.0)
    ∙ ap (λ o. o >>= function_typed n.text all.answers.0 given) y.gives)
    (passes-ends _ c.agrees.result (agrees given y.value.part) function _
    (body-agrees c.gives.new.self c.block.new.self y.grows y.kept.shapes.arrays c.in_ok-gives.gives.shape c.in_ok-gives.gives.of given c.in_ok-typing.typing.part y.value.part c.agrees.result
    gives.answers.2.1 gives.answers.2.0 y.means.type y.means.part c.agrees.ensures)
    c.in_err-refuse.ensures))

pub add_function-requires-clause-settled : goal.add_function-requires-clause-settled
add_function-requires-clause-settled c =
    let all = c.in_ok-parameters.ensures in
    let gives = c.in_ok-gives.ensures in
    let y = c.in_ok-typing.ensures in
    let a = c.args.self.now in
    let g = c.gives.new.self in
    let t = c.block.new.self in
    left-settled a t c.requires y.kept (grows-trans a g t (grows-trans a c.parameters.new.self g all.grows gives.grows) y.grows) c.leave.new.self c.leave.ensures.kept c.leave.ensures.shapes c.leave.ensures.count

pub add_function-requires-clause-signature : goal.add_function-requires-clause-signature
add_function-requires-clause-signature c =
    let all = c.in_ok-parameters.ensures in
    let gives = c.in_ok-gives.ensures in
    let g = c.gives.new.self in
    let t = c.block.new.self in
    signature c.parameters.new.self g (record t { locals = c.leave.new.self }) gives.grows (grows-trans g t (record t { locals = c.leave.new.self }) c.in_ok-typing.ensures.grows (unbound t c.leave.new.self))
    c.in_ok-parameters.parameters c.in_ok-gives.gives.shape c.in_ok-gives.gives.of all.answers.2.1.types gives.answers.2.1 c.in_ok-text.text c.in_ok-typing.typing.typed

pub returns-clause-answers : goal.returns-clause-answers
returns-clause-answers c =
    let d = c.args.self.now.design in
    let n = c.args.name.now in
    let new = c.in_ok-is_new.ensures in
    let all = c.in_ok-parameters.ensures in
    let gives = c.in_ok-gives.ensures in
    let y = c.in_ok-typing.ensures in
    let s = scope_of c.gives.new.self in
    let given = gives.answers.0 in
    let make = λ (m : List ℕ) (ts : List ValueType) (r : Option ValueType) (b : Typed). let f : CheckedFunction = record { name = m; parameters = ts; result = r; body = b } in f in
    let function = make n.text (types_in_order all.answers.0) given y.value.typed in (
      function,
      function-chain d n c.args.parameters.now c.args.written.now c.args.body.now new.0 all.answers.0 given s new.1 new.2.0 all.answers.1 (ap (λ (e : Checked). result_of e c.args.written.now) (sym all.grows.design) ∙ gives.answers.1)
          (scope-behind c.args.self.now c.parameters.new.self c.gives.new.self all.answers.0 all.kept all.grows gives.grows gives.locals all.answers.2.0)
          ∙ ap (λ o. o >>= function_typed n.text all.answers.0 given) y.gives
          ∙ passes-gives c.agrees.result (agrees given y.value.part) c.in_ok-refuse.field-0 function
          (body-agrees c.gives.new.self c.block.new.self y.grows y.kept.shapes.arrays c.in_ok-gives.gives.shape c.in_ok-gives.gives.of given c.in_ok-typing.typing.part y.value.part c.agrees.result
          gives.answers.2.1 gives.answers.2.0 y.means.type y.means.part c.agrees.ensures) c.in_ok-refuse.ensures,
      c.in_ok-add_function.ensures.design
          ∙ ap₂ (λ (e : Checked) (f : CheckedFunction). let u : Checked = record e { functions = e.functions ++ f ∷ [] } in u) (y.grows.design ∙ gives.grows.design ∙ all.grows.design)
          (ap₂ (λ (m : List ℕ) (ts : List ValueType). make m ts c.in_ok-gives.gives.of c.in_ok-typing.typing.typed) (c.in_ok-text.ensures ∙ c.as_slice.ensures) (all.answers.2.1.order ∙ ap types_in_order all.answers.2.0)
          ∙ ap₂ (make n.text (types_in_order all.answers.0)) gives.answers.2.0 (sym y.means.typed)),
    )
