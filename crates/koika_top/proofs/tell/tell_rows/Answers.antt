use Rattle.std.proofs.Common.{subst, arith, ap, ◌∙◌}
use Rattle.std.proofs.lemmas.Result.{err_from_is_err_and}
use Rattle.koika_top.specs.inner.Telling.{TakesRows, part_of_batch, shown_by}
use Rattle.koika_top.proofs.Batches.{batch-fits, batch-is, batch-some}
use Rattle.front_end.proofs.Results.{on-ok-any}
use Rattle.front_end.proofs.Told.{told-as, told-none}
use Rattle.koika_top.proofs.tell.tell_rows.Goals as goal

pub batch-requires-clause-order : goal.batch-requires-clause-order
batch-requires-clause-order g c = omega (arith, c.requires.at, c.requires.order)

pub take-requires-clause-some : goal.take-requires-clause-some
take-requires-clause-some g c =
    let rows = g.E.Engine.rows_to c.args.engine.now in
    batch-some rows c.requires.run c.args.ends.from c.args.ends.to c.requires.order _ (batch-is rows _ c.args.ends.from c.args.ends.to _ c.requires.at c.in_ok-rows.ensures.rows)

pub take-requires-clause-fit : goal.take-requires-clause-fit
take-requires-clause-fit g c = batch-fits c.args.shape.now _ _ _ (c.requires.fit c.args.ends.to) c.in_ok-rows.ensures.rows

pub returns-in_err-rows-clause-told : goal.returns-in_err-rows-clause-told
returns-in_err-rows-clause-told g c =
    let p = err_from_is_err_and c.from_residual.result c.from_residual.ensures.1 in
    rw (p.1, p.2) (told-none _ _ _)

pub returns-in_err-text-clause-told : goal.returns-in_err-text-clause-told
returns-in_err-text-clause-told g c =
    let p = err_from_is_err_and c.from_residual-in_err-text.result c.from_residual-in_err-text.ensures.1 in
    rw (p.1, p.2) (told-none _ _ _)

pub returns-clause-same : goal.returns-clause-same
returns-clause-same g c = on-ok-any c.write_text.result _ c.in_ok-rows.ensures.same

pub returns-clause-at : goal.returns-clause-at
returns-clause-at g c = on-ok-any c.write_text.result _ c.in_ok-rows.ensures.at

pub returns-clause-stands : goal.returns-clause-stands
returns-clause-stands g c = on-ok-any c.write_text.result _ c.in_ok-rows.ensures.stands

pub returns-clause-rows : goal.returns-clause-rows
returns-clause-rows g c =
    let shape = c.args.shape.now in
    let rows = g.E.Engine.rows_to c.args.engine.now in
    let is = batch-is rows _ c.args.ends.from c.args.ends.to _ c.requires.at c.in_ok-rows.ensures.rows in
    on-ok-any c.write_text.result _ (λ marks. subst (TakesRows shape marks _ _) is (c.in_ok-text.ensures.rows marks))

pub returns-clause-told : goal.returns-clause-told
returns-clause-told g c =
    let rows = g.E.Engine.rows_to c.args.engine.now in
    told-as _ _ _ _
    (c.as_slice.ensures ∙ c.in_ok-text.ensures.text ∙ ap (λ batch. part_of_batch (shown_by c.args.teller.now) c.args.shape.now batch c.args.ends.from) (batch-is rows _ c.args.ends.from c.args.ends.to _ c.requires.at c.in_ok-rows.ensures.rows))
    c.write_text.ensures
