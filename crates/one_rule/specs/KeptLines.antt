-- How a stimulus keeps its lines: each in ascending order of the inputs.
use Rattle.std.specs.Prelude.{ℕ, ◌<◌, List, map, All, AllPairs}
use Rattle.typed_core.specs.Valid.{IsWidth}
use Rattle.one_rule.specs.Stimulus.{Assignment, Assigns, inputs_by, InputVectors}

-- a line names its inputs in ascending order
abbrev pub IsAscending : List Assignment → Type 0
IsAscending line = AllPairs (λ (a b : Assignment). a.0 < b.0) line

-- the line is one for inputs of these widths, and in order
pub record IsKeptLine (widths : List ℕ) (line : List Assignment) : Type 0 where
  pub values : All (Assigns widths) line
  pub order : IsAscending line

-- a stimulus for inputs of these widths keeps these lines
pub record KeepsLines (widths : List ℕ) (lines : List (List Assignment)) : Type 0 where
  pub each_width : All IsWidth widths
  pub each_line : All (IsKeptLine widths) lines

-- what callers see of a stimulus that keeps these lines
abbrev pub vectors_of : List ℕ → List (List Assignment) → InputVectors
vectors_of widths lines = record { widths = widths; cycles = map (inputs_by widths) lines }
