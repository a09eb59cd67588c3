use Rattle.std.proofs.Common.{◌≡◌, length, get_or, sym, ap, ◌∙◌, arith}
use Rattle.koika_syntax.proofs.Fronts.{faulty_base, faulty_digit, value_numeral, begins_literal, faulty_literal}
use Rattle.koika_syntax.proofs.literal.literal.Goals as goal

pub returns-in_default : goal.returns-in_default
returns-in_default c =
    faulty_base c.args.width.now c.args.behind.now c.requires
    (λ base more split. let none : length c.args.behind.now ≡ 0 = c.in_default.ensures.cases in absurd (omega (arith, none, ap length split)))

pub returns-in_default-of_letter : goal.returns-in_default-of_letter
returns-in_default-of_letter c =
    faulty_base c.args.width.now c.args.behind.now c.requires
    (λ base more split. c.in_default-of_letter.ensures.absent base (ap (λ l. get_or l 0 0) (sym c.in-Some.ensures.cases.0 ∙ split)))

pub returns-then-len-eq0 : goal.returns-then-len-eq0
returns-then-len-eq0 c =
    rw (c.in-Some.ensures.cases.0, c.in-Some-of_letter.ensures.found)
    (faulty_digit c.args.width.now c.in-Some.behind.now c.in-Some-of_letter.base c.requires (sym c.digits_len-len.ensures ∙ c.if-len-eq0.true))

pub bits_of-requires-clause-value : goal.bits_of-requires-clause-value
bits_of-requires-clause-value c =
    rw c.digits_len-len.ensures
    (value_numeral c.args.width.now c.in-Some.behind.now c.in-Some-of_letter.base c.requires (omega (arith, c.digits_len-len.ensures, c.if-len-eq0.false)))

pub returns-in-Some-bits_of : goal.returns-in-Some-bits_of
returns-in-Some-bits_of c =
    rw (c.in-Some.ensures.cases.0, c.in-Some-of_letter.ensures.found, c.digits_len-len.ensures)
    (begins_literal c.args.width.now c.in-Some.behind.now c.in-Some-of_letter.base c.requires c.in-Some-bits_of.bits (omega (arith, c.digits_len-len.ensures, c.if-len-eq0.false)) (rw c.digits_len-len.ensures at c.in-Some-bits_of.ensures.found))

pub returns-in-None : goal.returns-in-None
returns-in-None c =
    rw (c.in-Some.ensures.cases.0, c.in-Some-of_letter.ensures.found)
    (faulty_literal c.args.width.now c.in-Some.behind.now c.in-Some-of_letter.base c.requires (omega (arith, c.digits_len-len.ensures, c.if-len-eq0.false)) (rw c.digits_len-len.ensures at c.in-None.ensures.absent))
