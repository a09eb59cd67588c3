-- A bit vector, as SMT-LIB's theory of fixed-size bit vectors and BTOR2 (CAV 2018) have it: a width and a
-- number below 2 to that width. Widths go from 1 to 128.
use Rattle.std.specs.Prelude.{ℕ, ◌<◌, ◌≤◌, ◌^◌}

-- a width and a number
pub record BitVector : Type 0 where
  pub width : ℕ
  pub number : ℕ

-- these are the width and the number of a bit vector
pub record IsBitVector (width number : ℕ) : Type 0 where
  pub some_bit : 1 ≤ width
  pub no_wider : width ≤ 128
  pub in_range : number < 2 ^ width

-- the same of a record of both
abbrev pub IsBits : BitVector → Type 0
IsBits a = IsBitVector a.width a.number

-- 0 at a width
abbrev pub zero_at : ℕ → BitVector
zero_at width = record { width = width; number = 0 }
