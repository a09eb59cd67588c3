use Rattle.std.proofs.Common.{◌≡◌, ◌+◌, ◌≤◌, Err, length, sym, ap, ◌∙◌, arith}
use Rattle.std.proofs.lemmas.Result.{err_from_is_err_and}
use Rattle.stim_report.specs.declared.shape.Shape.{Shape}
use Rattle.front_end.specs.Sources.{longest_source}
use Rattle.front_end.proofs.Reading.{fault-of-part, stimulus-fits, widths-valid}
use Rattle.stream_run.specs.Lines.{inputs_on, most_cycles}
use Rattle.stream_run.proofs.LineInputs.{line-err, line-ok}
use Rattle.stream_run.proofs.line_run.LineRun.read_line.Goals as goal

pub read_stimulus-requires-clause-widths : goal.read_stimulus-requires-clause-widths
read_stimulus-requires-clause-widths c = widths-valid c.args.lowered.now.checked c.args.lowered.now.shape c.requires.typed c.args.lowered.now.shape_fits

pub returns-in_err-stimulus-clause-fault : goal.returns-in_err-stimulus-clause-fault
returns-in_err-stimulus-clause-fault c =
    let it = c.args.lowered.now in
    let line = c.args.line.now in
    let line_run = c.args.self.now in
    let short : length line ≤ longest_source = omega (arith, c.if-line-gt-LONGEST.false) in
    let few : line_run.cycle + 1 ≤ most_cycles = omega (arith, c.if-self-ge-MOST_CYCLES.false) in
    let p = err_from_is_err_and c.from_residual.result c.from_residual.ensures.1 in
    rw (p.1, p.2)
    (fault-of-part _ _ c.in_err-stimulus.field-0.0
    (λ fault h.
    ap (λ (shape : Shape). inputs_on shape.inputs (line_run.cycle + 1) line_run.line line) (sym it.shape_fits)
    ∙ line-err it.shape line_run.line (line_run.cycle + 1) line fault c.requires.one short few h)
    c.in_err-stimulus.ensures.fault)

pub returns-clause-inputs : goal.returns-clause-inputs
returns-clause-inputs c =
    let it = c.args.lowered.now in
    let line = c.args.line.now in
    let line_run = c.args.self.now in
    let short : length line ≤ longest_source = omega (arith, c.if-line-gt-LONGEST.false) in
    let few : line_run.cycle + 1 ≤ most_cycles = omega (arith, c.if-self-ge-MOST_CYCLES.false) in
    ap (λ (shape : Shape). inputs_on shape.inputs (line_run.cycle + 1) line_run.line line) (sym it.shape_fits)
    ∙ line-ok it.shape line_run.line (line_run.cycle + 1) line c.in_ok-stimulus.stimulus c.requires.one short few c.in_ok-stimulus.ensures.stimulus

pub returns-clause-widths : goal.returns-clause-widths
returns-clause-widths c =
    stimulus-fits c.args.lowered.now.checked c.args.lowered.now.shape c.args.self.now.line c.args.line.now c.in_ok-stimulus.stimulus c.args.lowered.now.shape_fits c.in_ok-stimulus.ensures.stimulus
