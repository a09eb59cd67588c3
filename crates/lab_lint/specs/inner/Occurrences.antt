-- What private functions alone cite of this crate's `Occurrences`.
use Rattle.std.specs.Prelude.{List}
use Rattle.koika_check.specs.declared.typed.BlockStep.{BlockStep, fold-BlockStep}
use Rattle.lab_lint.specs.Occurrences.{Part, typed_step, step_step}

-- ---- expressions

-- the part that a step is
unfoldable pub part_of_step : List Part → BlockStep → Part
part_of_step bodies = fold-BlockStep Part Part step_step (typed_step bodies)
