use Rattle.journal_check.proofs.OneFault.{good_excludes_faults, one_first_fault}
use Rattle.journal_check.proofs.checking_laws.a_journal_has_one_answer.Goals as goal

pub returns : goal.returns
returns c = record { never_both = good_excludes_faults; one = one_first_fault }
