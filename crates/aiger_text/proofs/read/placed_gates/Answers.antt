use Rattle.std.proofs.Common.{◌+◌, Ok, Err, arith}
use Rattle.std.proofs.lemmas.Result.{err_from_is_err_and}
use Rattle.aiger_text.specs.inner.Steps.{parts_of}
use Rattle.aiger_text.proofs.Lines.{faults_pass, gates_by}
use Rattle.aiger_text.proofs.read.placed_gates.Goals as goal

pub returns-in_err-placed-clause-fault : goal.returns-in_err-placed-clause-fault
returns-in_err-placed-clause-fault c =
    let p = err_from_is_err_and c.from_residual.result c.from_residual.ensures.1 in
    rw (p.1, p.2) (faults_pass c.in_err-placed.field-0.0 _ _ c.in_err-placed.ensures.fault (λ fault reads. gates_by (parts_of c.args.draft.now) (c.len-inputs.result + c.len-latches.result) c.len-outputs.result c.line_number-first_line.result c.as_slice-gates.result.now (Err fault) (omega (arith, c.len-inputs.ensures, c.len-latches.ensures)) (omega (arith, c.len-outputs.ensures)) c.line_number-first_line.ensures c.as_slice-gates.ensures.value reads))

pub returns-clause-placed : goal.returns-clause-placed
returns-clause-placed c = gates_by (parts_of c.args.draft.now) (c.len-inputs.result + c.len-latches.result) c.len-outputs.result c.line_number-first_line.result c.as_slice-gates.result.now (Ok c.in_ok-placed.placed.items) (omega (arith, c.len-inputs.ensures, c.len-latches.ensures)) (omega (arith, c.len-outputs.ensures)) c.line_number-first_line.ensures c.as_slice-gates.ensures.value c.in_ok-placed.ensures.placed
