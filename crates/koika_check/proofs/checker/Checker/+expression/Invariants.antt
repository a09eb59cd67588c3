use Rattle.std.proofs.Common.{◌≡◌, [], length, take}
use Rattle.koika_check.specs.inner.Checking.{AreTyped, Yields, scope_of, typing_of}
use Rattle.koika_check.specs.inner.Expressions.{arm_in, expression_in, field_value_in}
use Rattle.koika_check.specs.Outcomes.{in_turn, one_by_one}
use Rattle.koika_check.specs.inner.TypedParts.{AreArms, AreSteps, AreTypedFields, In, IsChained}
use Rattle.koika_check.proofs.Blocks.{run-of, running}
use Rattle.koika_check.proofs.Chains.{joining, started}
use Rattle.koika_check.proofs.checker.Checker.+expression.Given as goal

abbrev pub invariant-values-loop-value : goal.invariant-values-loop-value
invariant-values-loop-value l =
    Yields (In AreTyped (scope_of l.fn.self)) l.fn.self (in_turn (λ e. expression_in e (scope_of l.fn.self)) (take l.value-index l.values)) l.self (record { parts = l.parts; typed = l.typed })

abbrev pub invariant-chain-loop-operand : goal.invariant-chain-loop-operand
invariant-chain-loop-operand l =
    Yields (In IsChained (scope_of l.fn.self)) l.fn.self (one_by_one (joining (scope_of l.fn.self)) (take l.operand-index l.rest) (started (typing_of l.fn.self l.fn.first))) l.self
    (record { left = l.left; operators = l.operators; operands = l.operands })

abbrev pub invariant-fields-loop-index : goal.invariant-fields-loop-index
invariant-fields-loop-index l =
    (length l.given ≡ l.index) ×
    Yields (In (AreTypedFields l.fn.number) (scope_of l.fn.self)) l.fn.self (in_turn (λ f. field_value_in f (scope_of l.fn.self)) (take l.index l.fields)) l.self (record { given = l.given; typed = l.typed })

abbrev pub invariant-arms-loop-arm : goal.invariant-arms-loop-arm
invariant-arms-loop-arm l =
    Yields (In AreArms (scope_of l.fn.self)) l.fn.self (in_turn (λ a. arm_in a (scope_of l.fn.self)) (take l.arm-index l.arms)) l.self (record { place = l.place; conditions = l.conditions; bodies = l.bodies })

abbrev pub invariant-steps-loop-statement : goal.invariant-steps-loop-statement
invariant-steps-loop-statement l =
    Yields (AreSteps (scope_of l.fn.self)) l.fn.self (one_by_one running (take l.statement-index l.statements) (run-of [] (scope_of l.fn.self))) l.self l.steps
