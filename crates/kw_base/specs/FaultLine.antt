-- The line of a fault: `fault N at L:C` and a line feed, each number in decimal digits.
use Rattle.std.specs.Prelude.{ℕ, List, [], ◌∷◌, ◌++◌, codes, decimal}
use Rattle.kw_base.specs.declared.fault.Fault.{Fault}

-- the bytes of the line
abbrev pub line_of_fault : Fault → List ℕ
line_of_fault fault =
    codes "fault " ++ decimal fault.number ++ codes " at " ++ decimal fault.line ++ codes ":" ++ decimal fault.column ++ 10 ∷ []
