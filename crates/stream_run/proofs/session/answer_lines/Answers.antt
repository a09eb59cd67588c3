use Rattle.std.proofs.Common.{◌≡◌, true, false, sym, subst, arith}
use Rattle.std.proofs.lemmas.Grind.{common_steps}
use Rattle.std.proofs.lemmas.Result.{err_from_is_err_and}
use Rattle.stream_run.specs.inner.Telling.{place_of}
use Rattle.stream_run.proofs.Answering.{no-fault}
use Rattle.stream_run.proofs.Going.{finishes-err, last-line, last-whole, next-line, reached-none, stops-line}
use Rattle.stream_run.proofs.Writing.{IsNoFault}
use Rattle.stream_run.proofs.session.answer_lines.Goals as goal

pub lines-init : goal.lines-init
lines-init g c = record { fits = c.requires.fits; reached = reached-none _ _ _ _; source_never_falls = omega arith; never_falls = omega arith }

pub returns-in_err-line-clause-finishes : goal.returns-in_err-line-clause-finishes
returns-in_err-line-clause-finishes g c =
    let p = err_from_is_err_and c.from_residual.result c.from_residual.ensures.1 in
    finishes-err c.args.lowered.now.checked _ _ _ _ _ _ c.from_residual.result p.0 p.1 c.lines.invariant.reached (subst IsNoFault (sym p.2) (no-fault c.in_err-line.field-0.0 c.in_err-line.ensures.why))

pub returns-then-not-line-clause-finishes : goal.returns-then-not-line-clause-finishes
returns-then-not-line-clause-finishes g c =
    let line = c.in_ok-line.line in
    let is : line.is_whole ≡ false = first_of (cc, grind (arith, common_steps)) in
    last-line _ _ _ _ _ _ _ _ _ line.bytes.items c.deref.result.now line.is_whole c.deref.ensures.value c.lines.invariant.reached c.in_ok-line.ensures.takes c.finish.result is c.finish.ensures.writes

pub returns-then-not-line-clause-whole : goal.returns-then-not-line-clause-whole
returns-then-not-line-clause-whole g c =
    let line = c.in_ok-line.line in
    let is : line.is_whole ≡ false = first_of (cc, grind (arith, common_steps)) in
    last-whole _ _ _ _ _ _ _ _ _ _ line.bytes.items c.deref.result.now line.is_whole c.deref.ensures.value c.lines.invariant.reached c.in_ok-line.ensures.takes c.finish.result is c.finish.ensures.writes

pub returns-in_err-answer-clause-finishes : goal.returns-in_err-answer-clause-finishes
returns-in_err-answer-clause-finishes g c =
    let line = c.in_ok-line.line in
    let is : line.is_whole ≡ true = first_of (cc, grind (arith, common_steps)) in
    let p = err_from_is_err_and c.from_residual-in_err-answer.result c.from_residual-in_err-answer.ensures.1 in
    rw (p.1, p.2)
    (stops-line _ _ _ _ _ _ _ _ _ line.bytes.items c.deref-in-lines.result.now line.is_whole c.deref-in-lines.ensures.value c.lines.invariant.reached c.in_ok-line.ensures.takes (place_of c.lines.line_run) _ is c.in_err-answer.ensures.answers)

pub lines-preserved : goal.lines-preserved
lines-preserved g c =
    let line = c.in_ok-line.line in
    let is : line.is_whole ≡ true = first_of (cc, grind (arith, common_steps)) in
    let before = c.lines.invariant in
    record {
      fits = c.in_ok-answer.ensures.fits;
      reached = next-line _ _ _ _ _ _ _ _ _ line.bytes.items c.deref-in-lines.result.now line.is_whole c.deref-in-lines.ensures.value before.reached c.in_ok-line.ensures.takes _ _ is c.in_ok-answer.ensures.answers;
      source_never_falls = omega (arith, before.source_never_falls, c.in_ok-line.ensures.never_falls);
      never_falls = omega (arith, before.never_falls, c.in_ok-answer.ensures.never_falls);
    }
