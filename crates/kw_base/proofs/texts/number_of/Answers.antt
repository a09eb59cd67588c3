use Rattle.std.proofs.Common.{◌+◌, arith, ◌∙◌}
use Rattle.std.proofs.lemmas.Str.Parse.{digits_value-take-le}
use Rattle.kw_base.proofs.Numerals.{digits_value_next}
use Rattle.kw_base.proofs.texts.number_of.Goals as goal

pub returns-in_err-number : goal.returns-in_err-number
returns-in_err-number c =
    let next = digits_value_next c.args.radix c.args.digits.now c.loop-byte.byte-index c.loop-byte.number c.digit_of.result c.loop-byte.invariant.0 c.loop-byte-test.true c.digit_of.ensures.value in
    let below = digits_value-take-le c.args.radix c.args.digits.now (c.loop-byte.byte-index + 1) (omega (arith, c.requires.least)) in
    rw c.from_residual.ensures (λ fits. c.in_err-number.ensures (omega (arith, next, below, fits)))

pub loop-byte-preserved : goal.loop-byte-preserved
loop-byte-preserved c =
    let next = digits_value_next c.args.radix c.args.digits.now c.loop-byte.byte-index c.loop-byte.number c.digit_of.result c.loop-byte.invariant.0 c.loop-byte-test.true c.digit_of.ensures.value in
    (c.in_ok-number.ensures.1 ∙ next, omega (arith, c.in_ok-number.ensures))
