-- Numbers that there may be.
use Rattle.std.specs.Prelude.{ℕ, Bool, false, ◌==◌, Option, Some, None}

-- it is this number
abbrev pub is_number : Option ℕ → (number : ℕ) → Bool
is_number None number = false
is_number (Some other) number = other == number
