use Rattle.std.proofs.Common.{◌≡◌, ◌-◌, ◌^◌, ap, ◌∙◌, arith}
use Rattle.kw_bits.specs.BitVector.{BitVector}
use Rattle.kw_bits.specs.Operators.{not}
use Rattle.net_simplify.proofs.known.known_of.Goals as goal

pub returns-then-number-eq0-2 : goal.returns-then-number-eq0-2
unfolding not
returns-then-number-eq0-2 c =
    let turned : c.number-else-number-eq0.result ≡ 2 ^ c.args.value.width - 1 - c.args.value.number = c.number-else-number-eq0.ensures.number ∙ ap (λ (x : BitVector). x.number) c.not.ensures in
    omega (arith, turned, c.number.ensures.bits.in_range)
