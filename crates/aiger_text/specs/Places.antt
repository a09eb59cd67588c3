-- The variables that lines of an AIGER text define, in order, and their places.
use Rattle.std.specs.Prelude.{ℕ, ◌+◌, Bool, if◌then◌else◌, nat_eq, List, position, Option, None, Some}
use Rattle.std.specs.List.{list_any}

-- the variable is defined by an earlier line
abbrev pub is_defined : List ℕ → ℕ → Bool
is_defined variables variable = list_any (nat_eq variable) variables

-- the place of a variable among the defined ones, counted from 1. Variable 0 is false, and has place 0
abbrev pub place_after : Option ℕ → Option ℕ
place_after None = None
place_after (Some k) = Some (k + 1)

-- the place of a variable in the graph: 0 is the constant, and the others are numbered in order of their lines
abbrev pub place_of : List ℕ → ℕ → Option ℕ
place_of variables variable = if nat_eq variable 0 then Some 0 else place_after (position (nat_eq variable) variables)
