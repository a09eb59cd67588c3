-- What an expression comes to, by what its parts come to.
use Rattle.std.proofs.Common.{◌≡◌, ℕ, List, map, ap, sym, ◌∙◌}
use Rattle.koika_types.specs.declared.value.Value.{Value}
use Rattle.typed_core.specs.declared.outcome.Stopped.{Stopped}
use Rattle.koika_check.specs.Meaning.{Meaning, RuleSetting, StepMeaning, meaning, step_step, typed_step}
use Rattle.koika_check.specs.declared.typed.Operation.{Operation}
use Rattle.koika_check.specs.declared.typed.BlockStep.{BlockStep, fold-roll-BlockStep}
use Rattle.koika_check.specs.declared.typed.BlockStep.TheOpen as opened
use Rattle.koika_check.specs.declared.typed.BlockStep.TheVariants as step
use Rattle.koika_check.specs.declared.typed.Typed.{Typed, fold-roll-Typed}
use Rattle.koika_check.specs.declared.typed.Typed.TheVariants as typed
use Rattle.koika_lower.specs.inner.Expressions.{step_meaning}

module _ (s : RuleSetting Stopped) where
  pub meaning-Constant : (v : Value) → meaning s (typed.Constant v) ≡ typed_step s (opened.Constant v)
  unfolding meaning
  meaning-Constant v = ap (meaning s) (sym (typed.rolls-Constant v)) ∙ fold-roll-Typed (StepMeaning Stopped) (Meaning Stopped) step_step (typed_step s) (opened.Constant v)

  pub meaning-Local : (index : ℕ) → meaning s (typed.Local index) ≡ typed_step s (opened.Local index)
  unfolding meaning
  meaning-Local index = ap (meaning s) (sym (typed.rolls-Local index)) ∙ fold-roll-Typed (StepMeaning Stopped) (Meaning Stopped) step_step (typed_step s) (opened.Local index)

  pub meaning-Input : (number : ℕ) → meaning s (typed.Input number) ≡ typed_step s (opened.Input number)
  unfolding meaning
  meaning-Input number = ap (meaning s) (sym (typed.rolls-Input number)) ∙ fold-roll-Typed (StepMeaning Stopped) (Meaning Stopped) step_step (typed_step s) (opened.Input number)

  pub meaning-Apply : (o : Operation) (operands : List Typed) → meaning s (typed.Apply o operands) ≡ typed_step s (opened.Apply o (map (meaning s) operands))
  unfolding meaning
  meaning-Apply o operands = ap (meaning s) (sym (typed.rolls-Apply o operands)) ∙ fold-roll-Typed (StepMeaning Stopped) (Meaning Stopped) step_step (typed_step s) (opened.Apply o operands)

  pub meaning-If : (conditions bodies : List Typed) → meaning s (typed.If conditions bodies) ≡ typed_step s (opened.If (map (meaning s) conditions) (map (meaning s) bodies))
  unfolding meaning
  meaning-If conditions bodies = ap (meaning s) (sym (typed.rolls-If conditions bodies)) ∙ fold-roll-Typed (StepMeaning Stopped) (Meaning Stopped) step_step (typed_step s) (opened.If conditions bodies)

  pub meaning-Block : (steps : List BlockStep) → meaning s (typed.Block steps) ≡ typed_step s (opened.Block (map (step_meaning s) steps))
  unfolding meaning step_meaning
  meaning-Block steps = ap (meaning s) (sym (typed.rolls-Block steps)) ∙ fold-roll-Typed (StepMeaning Stopped) (Meaning Stopped) step_step (typed_step s) (opened.Block steps)

  pub meaning-Let : (v : Typed) → step_meaning s (step.Let v) ≡ step_step (opened.Let (meaning s v))
  unfolding meaning step_meaning
  meaning-Let v = ap (step_meaning s) (sym (step.rolls-Let v)) ∙ fold-roll-BlockStep (StepMeaning Stopped) (Meaning Stopped) step_step (typed_step s) (opened.Let v)

  pub meaning-Do : (v : Typed) → step_meaning s (step.Do v) ≡ step_step (opened.Do (meaning s v))
  unfolding meaning step_meaning
  meaning-Do v = ap (step_meaning s) (sym (step.rolls-Do v)) ∙ fold-roll-BlockStep (StepMeaning Stopped) (Meaning Stopped) step_step (typed_step s) (opened.Do v)

  pub meaning-Give : (v : Typed) → step_meaning s (step.Give v) ≡ step_step (opened.Give (meaning s v))
  unfolding meaning step_meaning
  meaning-Give v = ap (step_meaning s) (sym (step.rolls-Give v)) ∙ fold-roll-BlockStep (StepMeaning Stopped) (Meaning Stopped) step_step (typed_step s) (opened.Give v)
