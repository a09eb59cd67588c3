-- What private functions alone cite of this crate's `Typing`.
use Rattle.std.specs.Prelude.{ℕ, List, Option}
use Rattle.koika_check.specs.declared.checked.Checked.{Checked}
use Rattle.koika_check.specs.declared.typed.BlockStep.{BlockStep, rec-BlockStep}
use Rattle.koika_check.specs.declared.typed.ValueType.{ValueType}
use Rattle.koika_check.specs.Typing.{Doing, PartHasType, StepDoes}

-- ---- expressions

abbrev pub StepHasType : Checked → (functions : ℕ) → BlockStep → List ValueType → Doing → Type 0
StepHasType d functions =
    rec-BlockStep (List ValueType → Doing → Type 0) (List ValueType → Option ValueType → Type 0)
    (λ X Y whole_step whole does is. StepDoes is) (λ X Y whole_step whole does is. PartHasType d functions does is)
