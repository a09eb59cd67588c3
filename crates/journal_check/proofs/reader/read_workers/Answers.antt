use Rattle.std.proofs.Common.{None, ap, subst, ◌∙◌}
use Rattle.std.proofs.lemmas.Result.{err_from_is_err_and}
use Rattle.journal_check.specs.Fitting.{LineFits}
use Rattle.journal_check.specs.Printing.{line_text}
use Rattle.journal_check.specs.Reading.{MayFollow}
use Rattle.journal_check.specs.inner.Steps.{IsMalformed}
use Rattle.journal_check.proofs.Adding.{passes}
use Rattle.journal_check.proofs.Following.{IsBegins, none_first, other_first}
use Rattle.journal_check.proofs.LinesRead.{refused}
use Rattle.journal_check.proofs.reader.read_workers.Goals as goal

pub returns-in_err-line-clause-fault : goal.returns-in_err-line-clause-fault
returns-in_err-line-clause-fault c =
    let p = err_from_is_err_and c.from_residual.result c.from_residual.ensures.1 in
    rw (p.1, p.2)
    (passes c.in_err-line.field-0.0 (IsMalformed c.args.reader.now.names.design.now (LineFits c.args.reader.now.names.design.now c.args.reader.now.stimulus.now 0) c.args.bytes.now c.args.number) (IsMalformed c.args.reader.now.names.design.now (MayFollow c.args.reader.now.names.design.now c.args.reader.now.stimulus.now None) c.args.bytes.now c.args.number) c.in_err-line.ensures.fault
    (λ fault h. (h.0, none_first c.args.reader.now.names.design.now c.args.reader.now.stimulus.now c.args.bytes.now h.1)))

pub returns-in-Begins-clause-fits : goal.returns-in-Begins-clause-fits
returns-in-Begins-clause-fits c = subst (LineFits c.args.reader.now.names.design.now c.args.reader.now.stimulus.now 0) c.in-Begins.is c.in_ok-line.ensures.line.0

pub returns-in-Begins-clause-text : goal.returns-in-Begins-clause-text
returns-in-Begins-clause-text c = c.in_ok-line.ensures.line.1 ∙ ap (line_text c.args.reader.now.names.design.now) c.in-Begins.is

pub returns-in-Batch-clause-fault : goal.returns-in-Batch-clause-fault
returns-in-Batch-clause-fault c =
    refused c.args.reader.now.names.design.now (MayFollow c.args.reader.now.names.design.now c.args.reader.now.stimulus.now None) c.args.bytes.now c.args.number c.refusal.result c.refusal.ensures
    (other_first c.args.reader.now.names.design.now c.args.reader.now.stimulus.now c.args.bytes.now c.in_ok-line.line (λ begins. subst IsBegins c.in-Batch.is begins) c.in_ok-line.ensures.line.0 c.in_ok-line.ensures.line.1)

pub returns-in-Entry-clause-fault : goal.returns-in-Entry-clause-fault
returns-in-Entry-clause-fault c =
    refused c.args.reader.now.names.design.now (MayFollow c.args.reader.now.names.design.now c.args.reader.now.stimulus.now None) c.args.bytes.now c.args.number c.refusal-in-Entry.result c.refusal-in-Entry.ensures
    (other_first c.args.reader.now.names.design.now c.args.reader.now.stimulus.now c.args.bytes.now c.in_ok-line.line (λ begins. subst IsBegins c.in-Entry.is begins) c.in_ok-line.ensures.line.0 c.in_ok-line.ensures.line.1)
