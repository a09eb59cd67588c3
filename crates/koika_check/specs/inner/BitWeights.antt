-- What private functions alone cite of this crate's `BitWeights`: bit weights as the code counts them, and what it counts.
use Rattle.std.specs.Prelude.{◌≡◌, ℕ, ◌-◌, ◌^◌, min, List, length, Option, Some, slice_get}
use Rattle.koika_check.specs.BitWeights.{step_step, typed_step}
use Rattle.koika_check.specs.Typing.{Applies, Doing, HasType, IsFunction}
use Rattle.koika_check.specs.inner.Typing.{StepHasType}
use Rattle.koika_check.specs.declared.checked.Checked.{Checked}
use Rattle.koika_check.specs.declared.checked.CheckedFunction.{CheckedFunction}
use Rattle.koika_check.specs.declared.typed.BlockStep.{BlockStep, fold-BlockStep}
use Rattle.koika_check.specs.declared.typed.Operation.{Operation}
use Rattle.koika_check.specs.declared.typed.Typed.{Typed}
use Rattle.koika_check.specs.declared.typed.ValueType.{ValueType}

-- how a number is counted: what 64 bits don't hold as the greatest that they do
abbrev pub cap : ℕ → ℕ
cap n = min n (2 ^ 64 - 1)

-- the squares of a step
unfoldable pub step_squares : (bodies : List ℕ) → BlockStep → ℕ
step_squares bodies = fold-BlockStep ℕ ℕ step_step (typed_step bodies)

-- each of these functions is well typed in the design, and calls those before it
abbrev pub AreFunctions : Checked → List CheckedFunction → Type 0
AreFunctions d functions = (number : ℕ) (f : CheckedFunction) → slice_get functions number ≡ Some f → IsFunction d number f

-- an expression, a step and an operation that are well typed where these functions are, and call these alone
abbrev pub IsTypedAmong : List CheckedFunction → Typed → Type 0
IsTypedAmong functions x = (d : Checked) × AreFunctions d functions × (locals : List ValueType) × (of : Option ValueType) × HasType d (length functions) x locals of

abbrev pub IsStepAmong : List CheckedFunction → BlockStep → Type 0
IsStepAmong functions s = (d : Checked) × AreFunctions d functions × (locals : List ValueType) × (doing : Doing) × StepHasType d (length functions) s locals doing

abbrev pub AppliesAmong : List CheckedFunction → Operation → Type 0
AppliesAmong functions o = (d : Checked) × AreFunctions d functions × (types : List ValueType) × (of : Option ValueType) × Applies d (length functions) o types of
