use Rattle.std.proofs.Common.{arith}
use Rattle.wave_text.proofs.Binary.{digits_counted}
use Rattle.wave_text.proofs.changes.digit_count.Goals as goal

pub returns-clause-digits : goal.returns-clause-digits
returns-clause-digits c =
    digits_counted c.args.number c.max.result (omega arith) (λ some. omega (arith, c.max.ensures, some)) (λ none. omega (arith, c.max.ensures, none))
