-- Counts of a number's bits at its width, in place of a machine word's.
use Rattle.std.proofs.Common.{◌≡◌, ℕ, suc, ◌+◌, ◌-◌, ◌*◌, ◌^◌, ◌<◌, ◌≤◌, count_ones, inl, inr, lit<, arith}
use Rattle.std.proofs.Math.Nat.{pow-suc, pow-le-pow_right}
use Rattle.std.proofs.lemmas.Bool.{cases_lt}
use Rattle.std.proofs.lemmas.Nat.{ones-le, leading_le, leading_length}
use Rattle.std.specs.Int.Count.{count_leading_zeros, leading_unique}
use Rattle.kw_bits.specs.BitVector.{IsBitVector}

-- how many bits of up to 15 are 1 is a number of 4 bits
pub count_ones_within : (w x : ℕ) → w < 16 → x < 2 ^ w → IsBitVector 4 (count_ones x)
count_ones_within w x most h =
    record { some_bit = omega arith; no_wider = omega arith; in_range = omega (arith, ones-le w x h) }

-- and so is how many of them stand above the highest 1
pub leading_zeros_within : (w x : ℕ) → w < 16 → IsBitVector 4 (count_leading_zeros w x)
leading_zeros_within w x most =
    record { some_bit = omega arith; no_wider = omega arith; in_range = omega (arith, leading_le w x) }

-- a machine word has more zeros above by as many as it is wider
pub leading_zeros_of_word : (w x : ℕ) → w ≤ 128 → x < 2 ^ w → count_leading_zeros w x + (128 - w) ≡ count_leading_zeros 128 x
leading_zeros_of_word w x within h =
    let top = leading_length w x h in
    leading_unique 128 x (count_leading_zeros w x + (128 - w)) top.0 (omega arith) top.2 top.3

-- no more powers of 2 than one are above a number and at most twice it and 1
not_more_digits : (x d m : ℕ) → x < 2 ^ m → 2 ^ d ≤ 2 * x + 1 → d ≤ m
not_more_digits x d m above least =
    elim (cases_lt m d) [
      | inl more ↦
          let grows : 2 ^ suc m ≤ 2 ^ d = pow-le-pow_right (lit< tt) (omega arith) in
          let twice : 2 ^ suc m ≡ 2 ^ m * 2 = pow-suc 2 m in
          absurd (omega arith)
      | inr few ↦ few
    ]

-- so a number has one count of binary digits
pub same_digits : (x d m : ℕ) → x < 2 ^ d → 2 ^ d ≤ 2 * x + 1 → x < 2 ^ m → 2 ^ m ≤ 2 * x + 1 → d ≡ m
same_digits x d m above least above_m least_m =
    let up = not_more_digits x d m above_m least in
    let down = not_more_digits x m d above least_m in
    omega arith
