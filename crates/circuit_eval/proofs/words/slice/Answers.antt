use Rattle.std.proofs.Common.{◌≡◌, ℕ, ◌+◌, ◌-◌, ◌/◌, ◌%◌, ◌^◌, ◌<◌, arith, sym, ap, ◌∙◌}
use Rattle.std.proofs.Math.Nat.{mod-eq_of_lt}
use Rattle.kw_bits.specs.Operators.{slice}
use Rattle.kw_bits.proofs.Masks.{and_ones}
use Rattle.circuit_eval.proofs.words.slice.Goals as goal

pub returns : goal.returns
unfolding slice
returns c = λ x upper bits within order inside number ones.
    let w : ℕ = upper - c.args.lower + 1 in
    let short : c.args.lower < 64 = omega arith in
    let shifted : c.wrapping_shr.result ≡ x.number / 2 ^ c.args.lower =
    c.wrapping_shr.ensures ∙ ap (λ (k : ℕ). c.args.a / 2 ^ k) (mod-eq_of_lt short) ∙ ap (λ (n : ℕ). n / 2 ^ c.args.lower) (sym number) in
    and_ones c.wrapping_shr.result w c.args.mask ones ∙ ap (λ (n : ℕ). n % 2 ^ w) shifted
