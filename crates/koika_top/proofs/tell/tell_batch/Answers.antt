use Rattle.std.proofs.Common.{sym, ◌∙◌}
use Rattle.std.proofs.lemmas.Result.{err_from_is_err_and}
use Rattle.koika_top.specs.inner.Telling.{shown_by}
use Rattle.koika_top.proofs.Batches.{no-part}
use Rattle.front_end.proofs.Told.{told-as, told-empty, told-none}
use Rattle.koika_top.proofs.tell.tell_batch.Goals as goal

pub returns-in_err-count-clause-told : goal.returns-in_err-count-clause-told
returns-in_err-count-clause-told g c =
    let p = err_from_is_err_and c.from_residual.result c.from_residual.ensures.1 in
    rw (p.1, p.2) (told-none _ _ _)

pub returns-clause-told : goal.returns-clause-told
returns-clause-told g c =
    told-as _ _ _ _ (sym (no-part (shown_by c.args.teller.now) c.args.shape.now _ c.args.ends.from (sym c.writes_rows.ensures ∙ c.if-writes_rows.false))) (told-empty _ _ _)
