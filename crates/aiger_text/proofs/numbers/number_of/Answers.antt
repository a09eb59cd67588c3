use Rattle.std.proofs.Common.{sym, ◌∙◌}
use Rattle.aiger_text.proofs.Numbering.{number_is, number_none}
use Rattle.aiger_text.proofs.numbers.number_of.Goals as goal

pub returns-then-not-is_numeral : goal.returns-then-not-is_numeral
returns-then-not-is_numeral c = sym (number_none c.args.word.now (sym c.is_numeral.ensures.test ∙ c.if-not-is_numeral.true))

pub returns : goal.returns
returns c = number_is c.args.word.now c.value_of.result (sym c.is_numeral.ensures.test ∙ c.if-not-is_numeral.false) c.value_of.ensures
