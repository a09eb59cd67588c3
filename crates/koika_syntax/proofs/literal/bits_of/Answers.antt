use Rattle.std.specs.Str.Parse.{digits_value}
use Rattle.koika_syntax.specs.Lexemes.{radix_of}
use Rattle.koika_syntax.proofs.Numerals.{number-lt}
use Rattle.koika_syntax.proofs.literal.bits_of.Goals as goal

pub returns-in_err-number_of-2-clause-absent : goal.returns-in_err-number_of-2-clause-absent
returns-in_err-number_of-2-clause-absent c =
    rw c.from_residual-in_err-number_of-2.ensures (λ bits. c.in_err-number_of-2.ensures (rw c.radix.ensures (number-lt (digits_value 10 c.args.width.now) (digits_value (radix_of c.args.base) c.args.value.now) bits)))
