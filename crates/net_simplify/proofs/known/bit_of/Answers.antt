use Rattle.std.proofs.Common.{ℕ, sym, ap, ◌∙◌}
use Rattle.std.specs.Prelude.{nat_eq}
use Rattle.kw_bits.specs.Operators as op
use Rattle.kw_bits.proofs.OperatorLaws.{one_bit-flag}
use Rattle.net_simplify.proofs.known.bit_of.Goals as goal

pub returns-then-width-eq1 : goal.returns-then-width-eq1
returns-then-width-eq1 c = one_bit-flag c.args.value c.width.ensures.bits (sym c.width.ensures.width ∙ c.if-width-eq1.true) ∙ ap (λ (n : ℕ). op.flag (nat_eq n 1)) (sym c.number.ensures.number)
