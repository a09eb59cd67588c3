use Rattle.std.proofs.Common.{ℕ, subst, sym}
use Rattle.kw_bits.specs.BitVector.{IsBitVector}
use Rattle.btor2_model.proofs.One.{one-fits}
use Rattle.btor2_model.proofs.operators.unary.Goals as goal

pub returns-in_err-one-clause-some : goal.returns-in_err-one-clause-some
returns-in_err-one-clause-some c =
    let bits = c.width.ensures.bits in
    let some = c.in_err-one.ensures.some.1 (subst (λ (width : ℕ). IsBitVector width 1) (sym c.width.ensures.width) (one-fits c.args.a.width bits.some_bit bits.no_wider)) in
    absurd (cc)
