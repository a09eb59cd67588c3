-- Words of the machine that hold the numbers of bit vectors of up to 64 bits, and what an operation on such words makes.
-- The mask of a width is the number whose low bits, as many as the width, are 1. This serves private functions alone.
use Rattle.std.specs.Prelude.{◌≡◌, ℕ, ◌+◌, ◌^◌}

-- a number is the mask of a width
abbrev pub IsMask : ℕ → ℕ → Type 0
IsMask mask width = mask + 1 ≡ 2 ^ width
