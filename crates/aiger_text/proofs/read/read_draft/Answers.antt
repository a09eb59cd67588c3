use Rattle.std.proofs.Common.{sym, ◌∙◌}
use Rattle.std.proofs.lemmas.Result.{err_from_is_err_and}
use Rattle.aiger_text.proofs.Lines.{faults_pass, no_header, no_line, with_header}
use Rattle.aiger_text.proofs.read.read_draft.Goals as goal

pub returns-in_default-clause-fault : goal.returns-in_default-clause-fault
returns-in_default-clause-fault c = rw c.refusal.ensures (no_line c.args.bytes.now c.in_default.ensures.absent)

pub returns-in_default-header_of-clause-fault : goal.returns-in_default-header_of-clause-fault
returns-in_default-header_of-clause-fault c =
    rw c.refusal-in_default-header_of.ensures (no_header c.args.bytes.now c.in-Some.line.bytes.now c.in-Some.line.rest.now c.in-Some.ensures.found.first (sym c.header_of.ensures ∙ c.in_default-header_of.is))

pub returns-in_err-draft-clause-fault : goal.returns-in_err-draft-clause-fault
returns-in_err-draft-clause-fault c =
    let p = err_from_is_err_and c.from_residual.result c.from_residual.ensures.1 in
    rw (p.1, p.2) (faults_pass c.in_err-draft.field-0.0 _ _ c.in_err-draft.ensures.fault (λ fault reads.
    with_header c.args.bytes.now c.in-Some.line.bytes.now c.in-Some.line.rest.now c.in-Some-header_of.header c.in-Some.ensures.found.first (sym c.header_of.ensures ∙ c.in-Some-header_of.is) ∙ reads))

pub returns-clause-draft : goal.returns-clause-draft
returns-clause-draft c =
    with_header c.args.bytes.now c.in-Some.line.bytes.now c.in-Some.line.rest.now c.in-Some-header_of.header c.in-Some.ensures.found.first (sym c.header_of.ensures ∙ c.in-Some-header_of.is) ∙ c.in_ok-draft.ensures.draft
