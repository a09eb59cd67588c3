use Rattle.journal_check.proofs.Digits.{number_read-decimal, value_read-hex}
use Rattle.journal_check.proofs.laws.digits_are_read_back.Goals as goal

pub returns-clause-number : goal.returns-clause-number
returns-clause-number c = number_read-decimal

pub returns-clause-value : goal.returns-clause-value
returns-clause-value c = value_read-hex
