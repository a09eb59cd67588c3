use Rattle.std.proofs.Common.{◌≡◌, ap}
use Rattle.std.proofs.lemmas.Result.{err_from_is_err_and}
use Rattle.stream_run.specs.inner.Telling.{Place, place_of}
use Rattle.stream_run.specs.declared.stop.Stop.TheVariants as stops
use Rattle.stream_run.proofs.Joining.{design-cut, design-here, design-open, design-shut}
use Rattle.stream_run.proofs.session.answer_design.Goals as goal

pub returns-in_err-line_run-clause-finishes : goal.returns-in_err-line_run-clause-finishes
returns-in_err-line_run-clause-finishes g c =
    let p = err_from_is_err_and c.from_residual.result c.from_residual.ensures.1 in
    rw (p.1, p.2) (design-here c.args.lowered.now.checked c.args.line _ c.args.is_open _ stops.NoMemory tt)

pub returns-in_err-write_opening-clause-finishes : goal.returns-in_err-write_opening-clause-finishes
returns-in_err-write_opening-clause-finishes g c =
    let p = err_from_is_err_and c.from_residual-in_err-write_opening.result c.from_residual-in_err-write_opening.ensures.1 in
    rw (p.1, p.2)
    (design-cut c.args.lowered.now.checked c.args.line _ c.args.is_open c.in_ok-line_run.line_run.regs _ _ (ap (λ (p : Place). p.regs) c.in_ok-line_run.ensures.place) c.in_err-write_opening.ensures)

pub returns-then-is_open-clause-finishes : goal.returns-then-is_open-clause-finishes
returns-then-is_open-clause-finishes g c =
    design-open c.args.lowered.now.checked c.args.line _ (place_of c.in_ok-line_run.line_run) c.in_ok-line_run.ensures.place _ _ c.in_ok-write_opening.ensures c.args.is_open _ c.answer_lines.result c.if-is_open.true c.answer_lines.ensures.finishes

pub returns-clause-finishes : goal.returns-clause-finishes
returns-clause-finishes g c =
    design-shut c.args.lowered.now.checked c.args.line _ (place_of c.in_ok-line_run.line_run) c.in_ok-line_run.ensures.place _ _ c.in_ok-write_opening.ensures c.args.is_open _ c.finish.result c.if-is_open.false c.finish.ensures.writes
