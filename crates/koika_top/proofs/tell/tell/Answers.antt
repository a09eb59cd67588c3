use Rattle.std.proofs.Common.{◌≤◌, ℕ, List, [], refl, sym, subst, ◌∙◌, arith}
use Rattle.std.proofs.lemmas.Result.{err_from_is_err_and}
use Rattle.one_rule.specs.declared.rows.Row.{Row}
use Rattle.stim_report.specs.Shapes.{RowsFit}
use Rattle.koika_top.specs.inner.Engines.{AreRows}
use Rattle.koika_top.specs.inner.Telling.{marks_in, shown_by}
use Rattle.koika_top.proofs.Batches.{begun, ending-cut, ending-told, first-cut, first-has, first-told, goes-on, last_cycle-rows, next-cut, next-has, next-told}
use Rattle.koika_top.proofs.tell.tell.Goals as goal

pub tell_batch-requires-clause-goes_on : goal.tell_batch-requires-clause-goes_on
tell_batch-requires-clause-goes_on g c = goes-on c.args.teller c.args.shape.now (marks_in c.args.teller) [] 0 c.requires.none refl

pub returns-in_err-tell_batch : goal.returns-in_err-tell_batch
returns-in_err-tell_batch g c =
    let p = err_from_is_err_and c.from_residual.result c.from_residual.ensures.1 in
    rw (p.1, p.2)
    (first-cut (g.E.Engine.rows_to c.args.engine.now) c.requires.run (shown_by c.args.teller) c.args.shape.now (marks_in c.args.teller) _ c.min-from.result c.args.cycles
    refl (λ none. omega (arith, c.min-from.ensures, none)) (omega (arith, c.min-from.ensures)) _ _ c.in_err-tell_batch.ensures.told)

pub tell_batch-requires-in-loop-from-clause-run : goal.tell_batch-requires-in-loop-from-clause-run
tell_batch-requires-in-loop-from-clause-run g c = subst AreRows (sym c.loop-from.invariant.run) c.requires.run

pub tell_batch-requires-in-loop-from-clause-fit : goal.tell_batch-requires-in-loop-from-clause-fit
tell_batch-requires-in-loop-from-clause-fit g c =
    subst (λ (rows : ℕ → List Row). (n : ℕ) → RowsFit c.args.shape.now (rows n)) (sym c.loop-from.invariant.run) c.requires.fit

pub tell_batch-requires-in-loop-from-clause-goes_on : goal.tell_batch-requires-in-loop-from-clause-goes_on
tell_batch-requires-in-loop-from-clause-goes_on g c =
    goes-on c.loop-from.teller c.args.shape.now (marks_in c.args.teller) _ c.loop-from.from c.loop-from.invariant.has (last_cycle-rows (g.E.Engine.rows_to c.args.engine.now) c.requires.run c.loop-from.from)

pub returns-in_err-tell_batch-2 : goal.returns-in_err-tell_batch-2
returns-in_err-tell_batch-2 g c =
    let invariant = c.loop-from.invariant in
    let p = err_from_is_err_and c.from_residual-in_err-tell_batch-2.result c.from_residual-in_err-tell_batch-2.ensures.1 in
    rw (p.1, p.2)
    (next-cut (g.E.Engine.rows_to c.args.engine.now) c.requires.run (shown_by c.args.teller) c.args.shape.now (marks_in c.args.teller) _ invariant.run c.loop-from.from c.min-to.result
    (omega (arith, c.min-to.ensures, c.loop-from-test.true)) _ (begun _ _ invariant.none c.loop-from-test.true) invariant.kind c.args.cycles (omega (arith, c.min-to.ensures))
    _ _ _ _ _ _ _ _ invariant.told c.in_err-tell_batch-2.ensures.told)

pub loop-from-init : goal.loop-from-init
loop-from-init g c =
    let rows = g.E.Engine.rows_to c.args.engine.now in
    let batch = c.in_ok-tell_batch.ensures in
    let marks = marks_in c.args.teller in
    record {
      kind = (batch.rows marks).same;
      has = first-has rows c.requires.run (shown_by c.args.teller) c.args.shape.now marks _ _ c.min-from.result (batch.rows marks) c.requires.none;
      run = batch.same;
      at = batch.at;
      stands = batch.stands;
      told = first-told rows c.requires.run (shown_by c.args.teller) c.args.shape.now marks _ c.min-from.result refl _ _ batch.told;
      none = λ none. omega (arith, c.min-from.ensures, none);
      order = omega (arith, c.min-from.ensures);
    }

pub loop-from-preserved : goal.loop-from-preserved
loop-from-preserved g c =
    let invariant = c.loop-from.invariant in
    let rows : ℕ → List Row = g.E.Engine.rows_to c.args.engine.now in
    let batch = c.in_ok-tell_batch-2.ensures in
    let shown = shown_by c.args.teller in
    let marks = marks_in c.args.teller in
    let low : 1 ≤ c.loop-from.from = begun _ _ invariant.none c.loop-from-test.true in
    let up : c.loop-from.from ≤ c.min-to.result = omega (arith, c.min-to.ensures, c.loop-from-test.true) in
    record {
      kind = (batch.rows marks).same ∙ invariant.kind;
      has = next-has rows c.requires.run shown c.args.shape.now marks _ invariant.run c.loop-from.from c.min-to.result up _ _ (batch.rows marks) (c.requires.fit c.loop-from.from) invariant.has;
      run = batch.same ∙ invariant.run;
      at = batch.at;
      stands = batch.stands;
      told = next-told rows c.requires.run shown c.args.shape.now marks _ invariant.run c.loop-from.from c.min-to.result up _ low invariant.kind _ _ _ _ _ _ _ _ invariant.told batch.told;
      none = λ e. absurd (omega (arith, e, low, up));
      order = omega (arith, c.min-to.ensures);
    }

pub returns-in_err-ending : goal.returns-in_err-ending
returns-in_err-ending g c =
    let invariant = c.loop-from.invariant in
    let p = err_from_is_err_and c.from_residual-in_err-ending.result c.from_residual-in_err-ending.ensures.1 in
    rw (p.1, p.2)
    (ending-cut (g.E.Engine.rows_to c.args.engine.now) c.requires.run (shown_by c.args.teller) c.args.shape.now (marks_in c.args.teller) c.loop-from.from c.args.cycles invariant.none invariant.order _ _ invariant.told)

pub returns : goal.returns
returns g c =
    let invariant = c.loop-from.invariant in
    ending-told (g.E.Engine.rows_to c.args.engine.now) c.requires.run (shown_by c.args.teller) c.args.shape.now (marks_in c.args.teller) c.loop-from.teller c.loop-from.from c.args.cycles _
    (omega (arith, invariant.order, c.loop-from-test.false)) invariant.kind invariant.has (c.as_slice.ensures ∙ c.in_ok-ending.ensures) _ _ _ _ _ _ _ _ invariant.told c.write_text.ensures
