use Rattle.btor2_text.specs.Cut.{lines_of}
use Rattle.btor2_text.proofs.Readings.{lines_or_fault, same_faults, same_readings}
use Rattle.btor2_text.proofs.laws.a_text_is_read_in_one_way.Goals as goal

pub returns-clause-lines : goal.returns-clause-lines
returns-clause-lines c = λ text. same_readings 1 (lines_of text)

pub returns-clause-fault : goal.returns-clause-fault
returns-clause-fault c = λ text. same_faults 1 (lines_of text)

pub returns-clause-never_both : goal.returns-clause-never_both
returns-clause-never_both c = λ text. lines_or_fault 1 (lines_of text)
