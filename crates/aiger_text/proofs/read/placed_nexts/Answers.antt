use Rattle.std.proofs.Common.{◌+◌, Ok, Err, arith}
use Rattle.std.proofs.lemmas.Result.{err_from_is_err_and}
use Rattle.aiger_text.specs.inner.Steps.{parts_of}
use Rattle.aiger_text.proofs.Lines.{faults_pass, nexts_by}
use Rattle.aiger_text.proofs.read.placed_nexts.Goals as goal

pub returns-in_err-placed-clause-fault : goal.returns-in_err-placed-clause-fault
returns-in_err-placed-clause-fault c =
    let p = err_from_is_err_and c.from_residual.result c.from_residual.ensures.1 in
    rw (p.1, p.2) (faults_pass c.in_err-placed.field-0.0 _ _ c.in_err-placed.ensures.fault (λ fault reads. nexts_by (parts_of c.args.draft.now) (1 + c.len-variables.result) c.len-inputs.result c.line_number-first_line.result c.as_slice-lits.result.now (Err fault) (omega (arith, c.len-variables.ensures)) (omega (arith, c.len-inputs.ensures)) c.line_number-first_line.ensures c.as_slice-lits.ensures.value reads))

pub returns-clause-placed : goal.returns-clause-placed
returns-clause-placed c = nexts_by (parts_of c.args.draft.now) (1 + c.len-variables.result) c.len-inputs.result c.line_number-first_line.result c.as_slice-lits.result.now (Ok c.in_ok-placed.placed.items) (omega (arith, c.len-variables.ensures)) (omega (arith, c.len-inputs.ensures)) c.line_number-first_line.ensures c.as_slice-lits.ensures.value c.in_ok-placed.ensures.placed
