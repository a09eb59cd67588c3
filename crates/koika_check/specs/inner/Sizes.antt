-- What private functions alone cite of this crate's `Sizes`.
use Rattle.koika_check.specs.declared.typed.BlockStep.{BlockStep, fold-BlockStep}
use Rattle.koika_check.specs.Sizes.{Size, Rests, StepSize, typed_step, step_step}

unfoldable pub size_of_step : Rests → BlockStep → StepSize
size_of_step r = fold-BlockStep StepSize Size step_step (typed_step r)
