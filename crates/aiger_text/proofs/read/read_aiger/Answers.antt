use Rattle.std.proofs.Common.{◌∙◌}
use Rattle.std.proofs.lemmas.Result.{err_from_is_err_and}
use Rattle.aiger_text.specs.inner.Steps.{parts_of}
use Rattle.aiger_text.proofs.Accepting.{refused-of}
use Rattle.aiger_text.proofs.Lines.{aig_of-draft, aig_of-fault, faults_pass}
use Rattle.aiger_text.proofs.Soundness.{draft_of-sound}
use Rattle.aiger_text.proofs.TextRuns.{graph-of}
use Rattle.aiger_text.proofs.read.read_aiger.Goals as goal

pub returns-in_err-draft-clause-fault : goal.returns-in_err-draft-clause-fault
returns-in_err-draft-clause-fault c =
    let p = err_from_is_err_and c.from_residual.result c.from_residual.ensures.1 in
    rw (p.1, p.2) (faults_pass c.in_err-draft.field-0.0 _ _ c.in_err-draft.ensures.fault (λ fault reads. aig_of-fault c.args.bytes.now fault reads))

pub returns-in_err-draft-clause-refused : goal.returns-in_err-draft-clause-refused
returns-in_err-draft-clause-refused c =
    let p = err_from_is_err_and c.from_residual.result c.from_residual.ensures.1 in
    rw (p.1, p.2) (faults_pass c.in_err-draft.field-0.0 _ _ c.in_err-draft.ensures.fault (λ fault reads. refused-of c.args.bytes.now fault (aig_of-fault c.args.bytes.now fault reads)))

pub to_aig-requires-clause-draft : goal.to_aig-requires-clause-draft
to_aig-requires-clause-draft c = draft_of-sound c.args.bytes.now (parts_of c.in_ok-draft.draft) c.in_ok-draft.ensures.draft

pub returns-in_err-aig-clause-fault : goal.returns-in_err-aig-clause-fault
returns-in_err-aig-clause-fault c =
    let p = err_from_is_err_and c.from_residual-in_err-aig.result c.from_residual-in_err-aig.ensures.1 in
    rw (p.1, p.2) (faults_pass c.in_err-aig.field-0.0 _ _ c.in_err-aig.ensures.fault (λ fault reads. aig_of-draft c.args.bytes.now (parts_of c.in_ok-draft.draft) c.in_ok-draft.ensures.draft ∙ reads))

pub returns-clause-aig : goal.returns-clause-aig
returns-clause-aig c = aig_of-draft c.args.bytes.now (parts_of c.in_ok-draft.draft) c.in_ok-draft.ensures.draft ∙ c.in_ok-aig.ensures.aig

pub returns-in_err-aig-clause-refused : goal.returns-in_err-aig-clause-refused
returns-in_err-aig-clause-refused c =
    let p = err_from_is_err_and c.from_residual-in_err-aig.result c.from_residual-in_err-aig.ensures.1 in
    rw (p.1, p.2) (faults_pass c.in_err-aig.field-0.0 _ _ c.in_err-aig.ensures.fault (λ fault reads.
    refused-of c.args.bytes.now fault (aig_of-draft c.args.bytes.now (parts_of c.in_ok-draft.draft) c.in_ok-draft.ensures.draft ∙ reads)))

pub returns-clause-text : goal.returns-clause-text
returns-clause-text c =
    graph-of c.args.bytes.now c.in_ok-aig.aig (aig_of-draft c.args.bytes.now (parts_of c.in_ok-draft.draft) c.in_ok-draft.ensures.draft ∙ c.in_ok-aig.ensures.aig)
