use Rattle.std.proofs.Common.{◌≡◌, ◌<◌, length, sym, ◌∙◌, arith}
use Rattle.std.proofs.lemmas.Bool.{eqb-false}
use Rattle.std.proofs.lemmas.Result.{err_from_is_err_and}
use Rattle.stream_run.specs.inner.Telling.{place_of}
use Rattle.stream_run.proofs.Answering.{ends-line, ends-line-cut, ends-stop}
use Rattle.stream_run.proofs.line_run.LineRun.finish.Goals as goal

pub returns-in_err-answer-clause-writes : goal.returns-in_err-answer-clause-writes
returns-in_err-answer-clause-writes g c =
    let ne = eqb-false (length c.args.line.now) 0 (sym c.is_empty.ensures ∙ c.if-is_empty.false) in
    let some : 0 < length c.args.line.now = omega (arith, ne) in
    let p = err_from_is_err_and c.from_residual-in_err-answer.result c.from_residual-in_err-answer.ensures.1 in
    rw (p.1, p.2) (ends-stop c.args.lowered.now.checked (place_of c.args.self.now) c.args.line.now c.requires.one some (place_of c.answer.new.self) _ _ _ c.in_err-answer.ensures.answers)

pub returns-in_err-write_ending-2-clause-writes : goal.returns-in_err-write_ending-2-clause-writes
returns-in_err-write_ending-2-clause-writes g c =
    let ne = eqb-false (length c.args.line.now) 0 (sym c.is_empty.ensures ∙ c.if-is_empty.false) in
    let some : 0 < length c.args.line.now = omega (arith, ne) in
    let p = err_from_is_err_and c.from_residual-in_err-write_ending-2.result c.from_residual-in_err-write_ending-2.ensures.1 in
    rw (p.1, p.2) (ends-line-cut c.args.lowered.now.checked (place_of c.args.self.now) c.args.line.now c.requires.one some (place_of c.answer.new.self) _ _ _ _ c.in_ok-answer.ensures.answers c.in_err-write_ending-2.ensures)

pub returns-clause-writes : goal.returns-clause-writes
returns-clause-writes g c =
    let ne = eqb-false (length c.args.line.now) 0 (sym c.is_empty.ensures ∙ c.if-is_empty.false) in
    let some : 0 < length c.args.line.now = omega (arith, ne) in
    ends-line c.args.lowered.now.checked (place_of c.args.self.now) c.args.line.now c.requires.one some (place_of c.answer.new.self) _ _ _ _ tt c.in_ok-answer.ensures.answers c.in_ok-write_ending-2.ensures
