use Rattle.kw_base.specs.Texts.{lines_of}
use Rattle.journal_check.proofs.OneJournal.{no_malformed, one_journal, one_malformed}
use Rattle.journal_check.proofs.laws.a_text_is_one_journal_or_malformed.Goals as goal

pub returns-clause-one : goal.returns-clause-one
returns-clause-one c = λ design stimulus first_line text a b names is also. one_journal design stimulus first_line (lines_of text) a b names is also

pub returns-clause-either : goal.returns-clause-either
returns-clause-either c = no_malformed

pub returns-clause-first : goal.returns-clause-first
returns-clause-first c = λ design stimulus first_line text a b names. one_malformed design stimulus first_line names text a b
