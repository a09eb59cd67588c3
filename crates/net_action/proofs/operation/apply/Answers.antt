use Rattle.std.proofs.Common.{subst}
use Rattle.typed_core.specs.Valid.{externs_of}
use Rattle.net_action.specs.inner.Parts.{OperationHasWidth}
use Rattle.net_action.specs.declared.operation.Operation.{Operation}
use Rattle.net_action.proofs.operation.apply.Goals as goal

pub returns-in_ok-wire-in-Ask-clause-wire : goal.returns-in_ok-wire-in-Ask-clause-wire
returns-in_ok-wire-in-Ask-clause-wire g c operand width h t =
    c.in_ok-wire-in-Ask.ensures.wire operand width h (subst (λ (o : Operation). OperationHasWidth (externs_of c.args.design.now) o operand width) c.in-Ask.is t).1
