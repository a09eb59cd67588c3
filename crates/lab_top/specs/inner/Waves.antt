-- How far the waves of a run were written.
use Rattle.std.specs.Prelude.{◌≡◌, ℕ, List, length}
use Rattle.koika_check.specs.declared.checked.Checked.{Checked}
use Rattle.one_rule.specs.Run.{InputsByCycle}
use Rattle.front_end.specs.Sources.{shape_of}
use Rattle.front_end.specs.Systems.{run_of}
use Rattle.wave_text.specs.Parts.{Progress, part, progress}
use Rattle.wave_text.specs.Waves.{variables}

-- what is written of the first n cycles of a run, up to the edge after them
abbrev pub edges_to : Checked → InputsByCycle → ℕ → List ℕ
edges_to d inputs n = part (shape_of d) inputs (run_of d inputs n)

-- the rows of these cycles were taken
pub record HasTaken (d : Checked) (inputs : InputsByCycle) (n : ℕ) (now : Progress) : Type 0 where
  pub rows : now ≡ progress (shape_of d) inputs (run_of d inputs n)
  pub levels : length now.levels ≡ length (variables (shape_of d))
  pub registers : length now.registers ≡ length (shape_of d).registers
