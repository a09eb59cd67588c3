-- What the answers of the width check stand for.
use Rattle.std.specs.Prelude.{ℕ, Option, Some, None}

-- the answer is a width of this kind, or there is none
abbrev pub Finds : (ℕ → Type 0) → Option ℕ → Type 0
Finds P None = (width : ℕ) → P width → ⊥
Finds P (Some width) = P width
