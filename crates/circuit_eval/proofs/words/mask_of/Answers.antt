use Rattle.std.proofs.Common.{◌≡◌, ℕ, ◌+◌, ◌-◌, ◌/◌, ◌^◌, subst, arith}
use Rattle.kw_bits.proofs.Masks.{ones_shr}
use Rattle.circuit_eval.proofs.words.mask_of.Goals as goal

pub returns : goal.returns
returns c =
    let w : ℕ = c.args.width in
    let e : w + (64 - w) ≡ 64 = omega arith in
    subst (λ (x : ℕ). (2 ^ x - 1) / 2 ^ (64 - w) + 1 ≡ 2 ^ w) e (ones_shr w (64 - w))
