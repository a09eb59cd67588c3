-- What the operations of machine words of 64 bits make of the numbers of bit vectors.
use Rattle.std.proofs.Common.{◌≡◌, ℕ, ◌+◌, ◌-◌, ◌*◌, ◌%◌, ◌^◌, ◌<◌, ◌≤◌, bit_and, bit_or, arith, subst, sym, ap, ◌∙◌}
use Rattle.std.proofs.Math.Nat.{add-mul-mod_self_right}
use Rattle.std.proofs.Math.Pow.{mod-mod-pow}
use Rattle.std.proofs.lemmas.Nat.{pow_pos, pow-add, or_shifted, shl_whole}
use Rattle.kw_bits.proofs.Masks.{and_ones}
use Rattle.kw_bits.proofs.Words.{more_of_a_multiple}

-- a mask leaves the low bits of what was cut to a word
pub masked : (n mask w : ℕ) → w ≤ 64 → mask + 1 ≡ 2 ^ w → bit_and (n % 2 ^ 64) mask ≡ n % 2 ^ w
masked n mask w within ones =
    let e : 64 - w + w ≡ 64 = omega arith in
    and_ones (n % 2 ^ 64) w mask ones ∙ subst (λ (k : ℕ). n % 2 ^ k % 2 ^ w ≡ n % 2 ^ w) e (mod-mod-pow n (64 - w) w)

-- and those of a difference, which a word takes from 2 to the 64th power
pub masked_difference : (a b mask w : ℕ) → b < 2 ^ w → w ≤ 64 → mask + 1 ≡ 2 ^ w → bit_and ((a + (2 ^ 64 - b)) % 2 ^ 64) mask ≡ (a + (2 ^ w - b)) % 2 ^ w
masked_difference a b mask w h within ones =
    let k : ℕ = 2 ^ (64 - w) - 1 in
    let positive = pow_pos (64 - w) in
    let one_more : k + 1 ≡ 2 ^ (64 - w) = omega arith in
    let e : 64 - w + w ≡ 64 = omega arith in
    let whole : 2 ^ 64 ≡ (k + 1) * 2 ^ w =
    subst (λ (x : ℕ). 2 ^ x ≡ 2 ^ (64 - w) * 2 ^ w) e (pow-add 2 (64 - w) w) ∙ ap (λ x. x * 2 ^ w) (sym one_more) in
    let below : b ≤ 2 ^ w = omega arith in
    let more : a + (2 ^ 64 - b) ≡ a + (2 ^ w - b) + k * 2 ^ w =
    ap (λ x. a + (x - b)) whole ∙ more_of_a_multiple a b (2 ^ w) k below in
    masked (a + (2 ^ 64 - b)) mask w within ones ∙ ap (λ x. x % 2 ^ w) more ∙ add-mul-mod_self_right (a + (2 ^ w - b)) k (2 ^ w)

-- bits above others, as a word joins them
pub joined : (high low w v : ℕ) → high < 2 ^ w → low < 2 ^ v → w + v ≤ 64 → bit_or (high * 2 ^ v % 2 ^ 64) low ≡ high * 2 ^ v + low
joined high low w v p q h = ap (λ x. bit_or x low) (shl_whole high w v 64 p h) ∙ or_shifted high v low q

-- for the goals of the operators
pub ruleset words = (masked, masked_difference, joined)
