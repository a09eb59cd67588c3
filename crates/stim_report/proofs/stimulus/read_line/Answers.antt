use Rattle.std.proofs.lemmas.Result.{err_from_is_err_and}
use Rattle.stim_report.proofs.LinesRead.{line_end, line_fault, word_faults}
use Rattle.stim_report.proofs.stimulus.read_line.Goals as goal

pub returns-in_err-read_word-clause-fault : goal.returns-in_err-read_word-clause-fault
returns-in_err-read_word-clause-fault c =
    let p = err_from_is_err_and c.from_residual.result c.from_residual.ensures.1 in
    let l = c.loop-word in
    let word = c.in-Some.word in
    rw (p.1, p.2)
    (word_faults c.in_err-read_word.field-0.0 _ _ _ _ c.in_err-read_word.ensures.reads (λ fault wanted.
    line_fault c.args.inputs.now c.args.number l.line.items l.column word.blanks word.bytes.now l.rest.now word.rest.now c.args.bytes.now c.place-start.result fault (c.in-Some.ensures.columns l.column) c.place-start.ensures wanted l.invariant.line))

pub returns-clause-line : goal.returns-clause-line
returns-clause-line c =
    let l = c.loop-word in
    line_end c.args.inputs.now c.args.number l.line.items l.column l.rest.now c.args.bytes.now (c.in_default.ensures.no_columns l.column) l.invariant.line
