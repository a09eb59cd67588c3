-- How a watch keeps the first cycle of each mark.
use Rattle.std.specs.Prelude.{◌≡◌, ℕ, Option, List, length}

-- a name and a cycle, or none yet, for each mark
pub record KeepsMarks (names : List (List ℕ)) (marks : List ℕ) (firsts : List (Option ℕ)) : Type 0 where
  pub name_each : length names ≡ length marks
  pub first_each : length firsts ≡ length marks
