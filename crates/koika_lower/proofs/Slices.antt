-- Slices of slices, and of vectors that are joined.
use Rattle.std.proofs.Common.{◌≡◌, ℕ, ◌+◌, ◌-◌, ◌/◌, ◌%◌, ◌^◌, ◌≤◌, ◌<◌, arith, ap, ap₂, sym, ◌∙◌}
use Rattle.std.proofs.Math.Pow.{mod-mod-pow}
use Rattle.std.proofs.lemmas.Nat.{mod-pow-add, pow_pos, shr-shr, shr_high}
use Rattle.kw_bits.specs.BitVector.{BitVector, IsBits}
use Rattle.kw_bits.specs.Operators.{concat, slice}
use Rattle.kw_bits.proofs.OperatorLaws.{slice-concat}
use Rattle.koika_types.proofs.Stacks.{same_bits}

-- a shorter mask behind a shift after a longer one
chunk : (y w l k : ℕ) → l + k ≤ w → y % 2 ^ w / 2 ^ l % 2 ^ k ≡ y / 2 ^ l % 2 ^ k
chunk y w l k h =
    let parts : w ≡ w - l - k + k + l = omega arith in
    let low : y % 2 ^ l < 2 ^ l = let p = pow_pos l in omega arith in
    ap (λ n. y % 2 ^ n / 2 ^ l % 2 ^ k) parts ∙
    ap (λ z. z / 2 ^ l % 2 ^ k) (mod-pow-add y (w - l - k + k) l) ∙
    ap (λ z. z % 2 ^ k) (shr_high (y / 2 ^ l % 2 ^ (w - l - k + k)) l (y % 2 ^ l) low) ∙
    mod-mod-pow (y / 2 ^ l) (w - l - k) k

-- a slice of a slice
pub slice-slice : (x : BitVector) (upper lower u l : ℕ) → l ≤ u → u + lower ≤ upper → slice (slice x upper lower) u l ≡ slice x (lower + u) (lower + l)
unfolding slice
slice-slice x upper lower u l le within =
    same_bits _ _ (omega arith)
    (chunk (x.number / 2 ^ lower) (upper - lower + 1) l (u - l + 1) (omega arith)
    ∙ ap (λ z. z % 2 ^ (u - l + 1)) (shr-shr x.number lower l)
    ∙ ap (λ k. x.number / 2 ^ (lower + l) % 2 ^ k) (omega arith))

-- a slice of the lower of two vectors, and of the higher
pub slice-low : (a b : BitVector) (u l : ℕ) → IsBits a → IsBits b → l ≤ u → u < b.width → slice (concat a b) u l ≡ slice b u l
slice-low a b u l ha hb le within =
    sym (slice-slice (concat a b) (b.width - 1) 0 u l le (omega arith) ∙ ap₂ (λ x y. slice (concat a b) x y) (omega arith) (omega arith)) ∙
    ap (λ c. slice c u l) (slice-concat a b ha hb).1

pub slice-high : (a b : BitVector) (u l : ℕ) → IsBits a → IsBits b → l ≤ u → u < a.width → slice (concat a b) (b.width + u) (b.width + l) ≡ slice a u l
slice-high a b u l ha hb le within =
    sym (slice-slice (concat a b) (a.width + b.width - 1) b.width u l le (omega arith)) ∙
    ap (λ c. slice c u l) (slice-concat a b ha hb).0
