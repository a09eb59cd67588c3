-- The numbers of bit vectors.
use Rattle.std.proofs.Common.{ℕ, ◌<◌, ◌≤◌, ◌^◌, arith, lit<}
use Rattle.std.proofs.Math.Nat.{pow-le-pow_right}
use Rattle.kw_bits.specs.BitVector.{IsBitVector}

-- the number of a bit vector fits 128 bits
pub number-lt : (width number : ℕ) → IsBitVector width number → number < 2 ^ 128
number-lt width number bits =
    let widest : 2 ^ width ≤ 2 ^ 128 = pow-le-pow_right {n = 2} (lit< tt) {i = width} {j = 128} bits.no_wider in
    let in_range : number < 2 ^ width = bits.in_range in
    omega arith
