use Rattle.std.proofs.Common.{ℕ, List, [], ◌∷◌, ◌++◌, ap, ◌∙◌, arith}
use Rattle.std.proofs.lemmas.Result.{err_from_is_err_and}
use Rattle.one_rule.specs.Stimulus.{InputVectors, inputs_by}
use Rattle.stim_report.proofs.LinesRead.{cycles_end, cycles_fault, cycles_more, faults_pass}
use Rattle.stim_report.proofs.stimulus.read_stimulus.Goals as goal

pub returns-in_err-assignments-clause-fault : goal.returns-in_err-assignments-clause-fault
returns-in_err-assignments-clause-fault c =
    let p = err_from_is_err_and c.from_residual-in_err-assignments.result c.from_residual-in_err-assignments.ensures.1 in
    let l = c.loop-line in
    let faults = rw c.as_slice-inputs.ensures at c.in_err-assignments.ensures.fault in
    rw (p.1, p.2)
    (faults_pass c.in_err-assignments.field-0.0 _ _ faults (λ fault reads.
    cycles_fault c.args.shape.now c.args.first_line l.number c.args.bytes.now l.rest.now c.in-Some.line.bytes.now c.in-Some.line.rest.now fault l.stimulus.cycles c.in-Some.ensures.found reads l.invariant.cycles))

pub loop-line-preserved : goal.loop-line-preserved
loop-line-preserved c =
    let l = c.loop-line in
    let pushed = c.in_ok-push_line.ensures.ok in
    let reads = rw c.as_slice-inputs.ensures at c.in_ok-assignments.ensures.line in
    let count = rw c.as_slice-inputs.ensures at c.in_ok-assignments.ensures.count in
    let more = ap (λ (s : InputVectors). s.cycles) pushed ∙ ap (λ (widths : List ℕ). l.stimulus.cycles ++ inputs_by widths c.in_ok-assignments.assignments.items ∷ []) l.invariant.widths in
    record {
      cycles = cycles_more c.args.shape.now.inputs l.number c.saturating_add-number.result l.rest.now c.in-Some.line.bytes.now c.in-Some.line.rest.now c.in_ok-assignments.assignments.items l.stimulus.cycles _ _
          c.in-Some.ensures.found reads (first_of (omega (arith, c.saturating_add-number.ensures), grind (arith, c.saturating_add-number.ensures))) more l.invariant.cycles;
      widths = ap (λ (s : InputVectors). s.widths) pushed ∙ l.invariant.widths;
      count = count;
      given = c.in_ok-assignments.ensures.given;
    }

pub returns-clause-stimulus : goal.returns-clause-stimulus
returns-clause-stimulus c =
    let l = c.loop-line in
    cycles_end c.args.shape.now c.args.first_line l.number c.args.bytes.now l.rest.now l.stimulus c.in_default.ensures.absent l.invariant.widths l.invariant.cycles
