use Rattle.std.proofs.Common.{sym, ◌∙◌}
use Rattle.stim_report.proofs.Digits.{numeral_none, numeral_some}
use Rattle.stim_report.proofs.value.numeral_of.Goals as goal

pub returns-then-not-is_numeral-clause-absent : goal.returns-then-not-is_numeral-clause-absent
returns-then-not-is_numeral-clause-absent c =
    c.in_base-numeral.ensures.number ∙ numeral_none c.in_base-numeral.result.radix c.in_base-numeral.result.digits.now (sym c.is_numeral.ensures.test ∙ c.if-not-is_numeral.true)

pub returns-clause-found : goal.returns-clause-found
returns-clause-found c =
    let is = sym c.is_numeral.ensures.test ∙ c.if-not-is_numeral.false in
    (c.in_base-numeral.ensures.base, c.in_base-numeral.ensures.number ∙ numeral_some c.in_base-numeral.result.radix c.in_base-numeral.result.digits.now is)
