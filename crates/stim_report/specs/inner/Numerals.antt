-- The bases that values are written in.
use Rattle.std.specs.Prelude.{ℕ, ◌≤◌}

pub record IsBase (radix : ℕ) : Type 0 where
  pub least : 2 ≤ radix
  pub most : radix ≤ 16
