-- How the names of the rules that fired are written one by one.
use Rattle.std.specs.Prelude.{ℕ, Bool, if◌then◌else◌, List, [], ◌∷◌}
use Rattle.stim_report.specs.Report.{listed, more_names}

-- a name after a comma, unless it is the first
abbrev pub separated : Bool → List ℕ → List ℕ
separated is_first name = if is_first then name else 44 ∷ name

-- what a rule adds
abbrev pub shown : Bool → List ℕ → Bool → List ℕ
shown is_first name fired = if fired then separated is_first name else []

-- the names that are left, where none or some came before
abbrev pub rest_listed : Bool → List (List ℕ) → List ℕ
rest_listed is_first names = if is_first then listed names else more_names names
