use Rattle.std.proofs.Common.{◌≡◌, sym, ap, ◌∙◌, arith}
use Rattle.kw_bits.specs.Host.{number_of_bits, interleaved_bit}
use Rattle.kw_bits.proofs.Halves.{interleaved_bit-lt}
use Rattle.kw_bits.proofs.Reversal.{number_of_bits-lt, number_of_bits-next}
use Rattle.kw_bits.proofs.host.interleaved.Goals as goal

pub loop-i-init : goal.loop-i-init
unfolding number_of_bits
loop-i-init c = search

pub with_bit-number-requires-clause-below : goal.with_bit-number-requires-clause-below
with_bit-number-requires-clause-below c =
    rw c.loop-i.invariant (number_of_bits-lt c.loop-i.i _ (interleaved_bit-lt _ _))

pub loop-i-preserved : goal.loop-i-preserved
loop-i-preserved c =
    rw (c.with_bit-number.ensures, c.interleaved_bit.ensures.bit, c.loop-i.invariant)
    (sym (number_of_bits-next c.loop-i.i (interleaved_bit c.args.x c.args.y)))

pub returns : goal.returns
returns c =
    let last : c.loop-i.i ≡ c.args.count = omega (arith, c.loop-i-test.false, c.loop-i.auto.i-end) in
    c.loop-i.invariant ∙ ap (λ n. number_of_bits n (interleaved_bit c.args.x c.args.y)) last
