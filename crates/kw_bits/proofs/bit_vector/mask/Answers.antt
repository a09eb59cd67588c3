use Rattle.std.proofs.Common.{◌≡◌, ℕ, ◌+◌, ◌-◌, ◌/◌, ◌^◌, subst, arith}
use Rattle.kw_bits.proofs.Masks.{ones_shr}
use Rattle.kw_bits.proofs.bit_vector.mask.Goals as goal

pub returns-then-width-le64 : goal.returns-then-width-le64
returns-then-width-le64 c =
    let w = c.args.width in
    let whole : w + (64 - w) ≡ 64 = omega arith in
    subst (λ (n : ℕ). (2 ^ n - 1) / 2 ^ (64 - w) + 1 ≡ 2 ^ w) whole (ones_shr w (64 - w))

pub returns-else-width-le64 : goal.returns-else-width-le64
returns-else-width-le64 c =
    let w = c.args.width in
    let whole : w + (128 - w) ≡ 128 = omega arith in
    subst (λ (n : ℕ). (2 ^ n - 1) / 2 ^ (128 - w) + 1 ≡ 2 ^ w) whole (ones_shr w (128 - w))
