-- The rules of a design that are marked as assertions.
use Rattle.std.specs.Prelude.{ℕ, List, [], map, slice_index_or}
use Rattle.koika_check.specs.declared.checked.Checked.{Checked}
use Rattle.front_end.specs.Sources.{name_of}

-- their names and numbers, in order of the marks
pub record Marks : Type 0 where
  pub names : List (List ℕ)
  pub rules : List ℕ

-- the name of the rule of this number
abbrev pub marked_name : Checked → ℕ → List ℕ
marked_name d rule = slice_index_or (map name_of d.rules) rule []

-- the marks of a design
abbrev pub marks_of : Checked → Marks
marks_of d = record { names = map (marked_name d) d.asserts; rules = d.asserts }
