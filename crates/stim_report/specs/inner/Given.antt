-- How a reader keeps which inputs a line assigns: by a flag for each input.
use Rattle.std.specs.Prelude.{◌≡◌, ◌<◌, ℕ, Bool, false, List, length, slice_index_or}
use Rattle.std.specs.List.{AllByRecursion}
use Rattle.one_rule.specs.Stimulus.{Assignment}
use Rattle.stim_report.specs.Assignments.{is_assigned}

pub record AreGiven (flags : List Bool) (line : List Assignment) : Type 0 where
  pub inputs : AllByRecursion (λ (a : Assignment). a.0 < length flags) line
  pub flag_each : (input : ℕ) → slice_index_or flags input false ≡ is_assigned line input
