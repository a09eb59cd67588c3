use Rattle.std.proofs.Common.{subst}
use Rattle.std.specs.Prelude.{IfOk}
use Rattle.kw_base.specs.Fault.{IfFault}
use Rattle.typed_core.specs.declared.design.Parts.{Parts}
use Rattle.journal_check.specs.Reading.{IsFirstMalformed, IsJournal}
use Rattle.journal_check.proofs.reader.read_journal.Goals as goal

pub returns-clause-journal : goal.returns-clause-journal
returns-clause-journal c =
    subst (λ (d : Parts). IfOk c.read_lines.result (IsJournal d c.args.stimulus.now c.args.first_line c.args.bytes.now)) c.in_ok-names.ensures.1 c.read_lines.ensures.journal

pub returns-clause-fault : goal.returns-clause-fault
returns-clause-fault c =
    subst (λ (d : Parts). IfFault c.read_lines.result (IsFirstMalformed d c.args.stimulus.now c.args.first_line c.args.bytes.now)) c.in_ok-names.ensures.1 c.read_lines.ensures.fault
