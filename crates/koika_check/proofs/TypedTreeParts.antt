-- What holds of each part of a typed expression and of a step, one level down.
use Rattle.std.specs.List.{AllByRecursion}
use Rattle.koika_syntax.proofs.TreeParts.{Such, firsts}
use Rattle.koika_check.specs.declared.typed.BlockStep.{BlockStep, BlockStep-F, map-BlockStep}
use Rattle.koika_check.specs.declared.typed.BlockStep.TheOpen as opened
use Rattle.koika_check.specs.declared.typed.Typed.{Typed, Typed-F, map-Typed}

module _ (QStep : BlockStep → Type 0) (QTyped : Typed → Type 0) where
  abbrev pub EachOfTyped : Typed-F BlockStep Typed → Type 0
  EachOfTyped (opened.Constant v) = Unit {0}
  EachOfTyped (opened.Local index) = Unit {0}
  EachOfTyped (opened.Input number) = Unit {0}
  EachOfTyped (opened.Apply o operands) = AllByRecursion QTyped operands
  EachOfTyped (opened.If conditions bodies) = AllByRecursion QTyped conditions × AllByRecursion QTyped bodies
  EachOfTyped (opened.Block steps) = AllByRecursion QStep steps

  abbrev pub EachOfStep : BlockStep-F BlockStep Typed → Type 0
  EachOfStep (opened.Let v) = QTyped v
  EachOfStep (opened.Do v) = QTyped v
  EachOfStep (opened.Give v) = QTyped v

  pub each_of_typed : (y : Typed-F (Such QStep) (Such QTyped)) → EachOfTyped (map-Typed (Such QStep) (Such QTyped) BlockStep Typed (λ e. e.0) (λ e. e.0) y)
  each_of_typed (opened.Constant v) = tt
  each_of_typed (opened.Local index) = tt
  each_of_typed (opened.Input number) = tt
  each_of_typed (opened.Apply o operands) = firsts QTyped operands
  each_of_typed (opened.If conditions bodies) = (firsts QTyped conditions, firsts QTyped bodies)
  each_of_typed (opened.Block steps) = firsts QStep steps

  pub each_of_step : (y : BlockStep-F (Such QStep) (Such QTyped)) → EachOfStep (map-BlockStep (Such QStep) (Such QTyped) BlockStep Typed (λ e. e.0) (λ e. e.0) y)
  each_of_step (opened.Let v) = v.1
  each_of_step (opened.Do v) = v.1
  each_of_step (opened.Give v) = v.1
