use Rattle.std.proofs.Common.{◌∙◌}
use Rattle.std.proofs.lemmas.Result.{err_from_is_err_and}
use Rattle.one_rule.specs.Stimulus.{inputs_of}
use Rattle.stream_run.specs.inner.Telling.{place_of}
use Rattle.stream_run.proofs.Answering.{answers-cut}
use Rattle.stream_run.proofs.line_run.LineRun.answer.Goals as goal

pub returns-in_err-write_text-clause-answers : goal.returns-in_err-write_text-clause-answers
returns-in_err-write_text-clause-answers g c =
    let p = err_from_is_err_and c.from_residual-in_err-write_text.result c.from_residual-in_err-write_text.ensures.1 in
    rw (p.1, p.2)
    (answers-cut c.args.lowered.now.checked (place_of c.args.self.now) (place_of c.args.self.now) c.args.line.now (inputs_of c.in_ok-stimulus.stimulus 1) c.as_slice.result.now _ _ c.in_ok-stimulus.ensures.inputs
    (c.as_slice.ensures ∙ c.in_ok-text.ensures.text) c.in_err-write_text.ensures)
