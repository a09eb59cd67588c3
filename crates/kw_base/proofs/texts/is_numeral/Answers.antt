use Rattle.std.proofs.Common.{◌<◌, length, sym, ◌∙◌, arith}
use Rattle.std.proofs.lemmas.Bool.Decides.{nat_tests}
use Rattle.kw_base.proofs.Numerals.{digits-from_tests, tests-from_digits}
use Rattle.kw_base.proofs.texts.is_numeral.Goals as goal

pub returns-then-not-is_empty-clause-numeral : goal.returns-then-not-is_empty-clause-numeral
returns-then-not-is_empty-clause-numeral c =
    let some : 0 < length c.args.bytes.now = grind (arith, nat_tests) in (
      λ yes. (some, digits-from_tests c.args.radix c.args.bytes.now (sym c.are_digits.ensures ∙ yes)),
      λ numeral. c.are_digits.ensures ∙ tests-from_digits c.args.radix c.args.bytes.now numeral.1,
    )
