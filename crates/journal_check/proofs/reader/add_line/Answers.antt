use Rattle.std.proofs.Common.{Some, sym, subst}
use Rattle.std.proofs.lemmas.Result.{err_from_is_err_and}
use Rattle.journal_check.specs.Fitting.{LineFits}
use Rattle.journal_check.specs.Reading.{MayFollow}
use Rattle.journal_check.specs.inner.Steps.{IsMalformed}
use Rattle.journal_check.proofs.Adding.{passes}
use Rattle.journal_check.proofs.Following.{IsBegins, batch_added, batch_refused, begins_again, entry_added, entry_refused, none_later}
use Rattle.journal_check.proofs.LinesRead.{refused}
use Rattle.journal_check.proofs.reader.add_line.Goals as goal

pub returns-in_err-line-clause-fault : goal.returns-in_err-line-clause-fault
returns-in_err-line-clause-fault c =
    let p = err_from_is_err_and c.from_residual.result c.from_residual.ensures.1 in
    rw (p.1, p.2)
    (passes c.in_err-line.field-0.0 (IsMalformed c.args.reader.now.names.design.now (LineFits c.args.reader.now.names.design.now c.args.reader.now.stimulus.now c.args.journal.now.workers) c.args.bytes.now c.args.number) (IsMalformed c.args.reader.now.names.design.now (MayFollow c.args.reader.now.names.design.now c.args.reader.now.stimulus.now (Some c.args.journal.now)) c.args.bytes.now c.args.number) c.in_err-line.ensures.fault
    (λ fault h. (h.0, none_later c.args.reader.now.names.design.now c.args.reader.now.stimulus.now c.args.journal.now c.args.bytes.now h.1)))

pub returns-in-Begins-clause-fault : goal.returns-in-Begins-clause-fault
returns-in-Begins-clause-fault c =
    refused c.args.reader.now.names.design.now (MayFollow c.args.reader.now.names.design.now c.args.reader.now.stimulus.now (Some c.args.journal.now)) c.args.bytes.now c.args.number c.refusal.result c.refusal.ensures
    (begins_again c.args.reader.now.names.design.now c.args.reader.now.stimulus.now c.args.journal.now c.args.bytes.now c.in_ok-line.line (subst IsBegins (sym c.in-Begins.is) tt) c.requires.few c.in_ok-line.ensures.line.0 c.in_ok-line.ensures.line.1)

pub returns-in-Batch-clause-adds : goal.returns-in-Batch-clause-adds
returns-in-Batch-clause-adds c =
    batch_added c.add_batch.result c.args.reader.now.names.design.now c.args.reader.now.stimulus.now c.args.journal.now c.add_batch.new.batches c.in-Batch.from c.in-Batch.to c.args.number c.args.bytes.now c.in_ok-line.line
    c.add_batch.ensures.ok c.in-Batch.is c.in_ok-line.ensures.line.0 c.in_ok-line.ensures.line.1

pub returns-in-Batch-clause-fault : goal.returns-in-Batch-clause-fault
returns-in-Batch-clause-fault c = batch_refused c.add_batch.result (IsMalformed c.args.reader.now.names.design.now (MayFollow c.args.reader.now.names.design.now c.args.reader.now.stimulus.now (Some c.args.journal.now)) c.args.bytes.now c.args.number) c.add_batch.ensures.fault

pub returns-in-Entry-clause-adds : goal.returns-in-Entry-clause-adds
returns-in-Entry-clause-adds c =
    entry_added c.add_entry.result c.args.reader.now.names.design.now c.args.reader.now.stimulus.now c.args.journal.now c.add_entry.new.batches c.in-Entry.entry c.args.number c.args.bytes.now c.in_ok-line.line
    c.add_entry.ensures.ok c.in-Entry.is c.in_ok-line.ensures.line.0 c.in_ok-line.ensures.line.1

pub returns-in-Entry-clause-fault : goal.returns-in-Entry-clause-fault
returns-in-Entry-clause-fault c =
    entry_refused c.add_entry.result c.args.reader.now.names.design.now c.args.reader.now.stimulus.now c.args.journal.now c.args.bytes.now c.args.number c.in-Entry.entry c.in_ok-line.line
    c.add_entry.ensures.fault c.in-Entry.is c.requires.few c.in_ok-line.ensures.line.0 c.in_ok-line.ensures.line.1
