-- What a mask of low ones does to a number.
use Rattle.std.proofs.Common.{◌≡◌, ℕ, ◌+◌, ◌-◌, ◌*◌, ◌/◌, ◌%◌, ◌^◌, ◌<◌, bit_and, arith, sym, ap, ◌∙◌}
use Rattle.std.proofs.lemmas.Nat.{and_mask, pow-add, pow_pos, shr_high}

product_of_next : (m y : ℕ) → 0 < y → (m + 1) * y - 1 ≡ m * y + (y - 1)
product_of_next m y h = omega arith

-- ones that are shifted down leave as many ones as they are more than the shift
pub ones_shr : (w k : ℕ) → (2 ^ (w + k) - 1) / 2 ^ k + 1 ≡ 2 ^ w
ones_shr w k =
    let positive = pow_pos w in
    let step = pow_pos k in
    let low : 2 ^ k - 1 < 2 ^ k = omega arith in
    let one_more : 2 ^ w - 1 + 1 ≡ 2 ^ w = omega arith in
    let product : 2 ^ (w + k) ≡ (2 ^ w - 1 + 1) * 2 ^ k = pow-add 2 w k ∙ ap (λ x. x * 2 ^ k) (sym one_more) in
    let split : 2 ^ (w + k) - 1 ≡ (2 ^ w - 1) * 2 ^ k + (2 ^ k - 1) =
    ap (λ x. x - 1) product ∙ product_of_next (2 ^ w - 1) (2 ^ k) step in
    let high = ap (λ x. x / 2 ^ k) split ∙ shr_high (2 ^ w - 1) k (2 ^ k - 1) low in
    ap (λ x. x + 1) high ∙ one_more

-- low ones keep the remainder
pub and_ones : (n w ones : ℕ) → ones + 1 ≡ 2 ^ w → bit_and n ones ≡ n % 2 ^ w
and_ones n w ones h =
    let e : ones ≡ 2 ^ w - 1 = omega arith in
    ap (bit_and n) e ∙ and_mask n w
