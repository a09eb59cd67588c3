-- Expressions and steps that are lowered. All of it serves private functions alone.
use Rattle.std.specs.Prelude.{ℕ, List, Bool, Option, map}
use Rattle.typed_core.specs.declared.outcome.Stopped.{Stopped}
use Rattle.koika_check.specs.Meaning.{Meaning, RuleSetting, StepMeaning, meaning, step_step, steps_in_turn, typed_step}
use Rattle.koika_check.specs.Typing.{HasType, IsTypedDesign, Pairwise, StepsHaveType}
use Rattle.koika_check.specs.inner.Typing.{StepHasType}
use Rattle.koika_check.specs.declared.checked.Checked.{Checked}
use Rattle.koika_check.specs.declared.typed.BlockStep.{BlockStep, fold-BlockStep}
use Rattle.koika_check.specs.declared.typed.Typed.{Typed}
use Rattle.koika_check.specs.declared.typed.ValueType.{ValueType}
use Rattle.koika_lower.specs.inner.Simulation.{AreNames, Lowers, LowersAll, Sense}
use Rattle.koika_lower.specs.declared.lowered.Bound.{Bound}
use Rattle.koika_lower.specs.declared.lowered.Lowered.{Lowered}

-- what an expression, a step and the steps of a block evaluate to, in a setting
abbrev pub sense_of : Typed → Sense
sense_of e s = meaning s e

unfoldable pub step_meaning : RuleSetting Stopped → BlockStep → StepMeaning Stopped
step_meaning s = fold-BlockStep (StepMeaning Stopped) (Meaning Stopped) step_step (typed_step s)

abbrev pub block_sense : List BlockStep → Sense
block_sense steps s = steps_in_turn (map (step_meaning s) steps)

-- an expression, expressions side by side and the steps of a block that are well typed in a well typed design
abbrev pub IsTyped : Checked → (functions depth : ℕ) → List Bound → Typed → Type 0
IsTyped d functions depth names e = (types : List ValueType) × (of : Option ValueType) ×
    IsTypedDesign d × AreNames d depth names types × HasType d functions e types of

abbrev pub AreTyped : Checked → (functions depth : ℕ) → List Bound → List Typed → Type 0
AreTyped d functions depth names es = (types : List ValueType) × (ofs : List (Option ValueType)) ×
    IsTypedDesign d × AreNames d depth names types × Pairwise (λ e of. HasType d functions e types of) es ofs

abbrev pub AreTypedSteps : Checked → (functions depth : ℕ) → List Bound → List BlockStep → Type 0
AreTypedSteps d functions depth names steps = (types : List ValueType) × (of : Option ValueType) ×
    IsTypedDesign d × AreNames d depth names types × StepsHaveType (StepHasType d functions) steps types of

-- the lowered are those of the expressions, one by one, wherever these are well typed
abbrev pub AreLowered : Checked → (functions depth : ℕ) → (rises : Bool) → List Bound → List Typed → List Lowered → Type 0
AreLowered d functions depth rises names es ls = (types : List ValueType) (ofs : List (Option ValueType)) →
    IsTypedDesign d → AreNames d depth names types → Pairwise (λ e of. HasType d functions e types of) es ofs →
    LowersAll d functions depth rises names types ofs (map sense_of es) ls

-- the lowered is that of the steps of a block, wherever these are well typed
abbrev pub AreLoweredSteps : Checked → (functions depth : ℕ) → List Bound → List BlockStep → Lowered → Type 0
AreLoweredSteps d functions depth names steps l = (types : List ValueType) (of : Option ValueType) →
    IsTypedDesign d → AreNames d depth names types → StepsHaveType (StepHasType d functions) steps types of →
    Lowers d functions depth names types of (block_sense steps) l
