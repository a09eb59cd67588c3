use Rattle.std.proofs.Common.{Some, refl}
use Rattle.std.proofs.lemmas.Result.{err_from_is_err_and}
use Rattle.koika_check.specs.inner.Shapes.{Denotes}
use Rattle.koika_check.specs.Types.{bits}
use Rattle.koika_check.proofs.Telling.{two-err, two-ok}
use Rattle.koika_check.proofs.operators.equated.Goals as goal

pub returns-in_err-refuse : goal.returns-in_err-refuse
returns-in_err-refuse c arrays a l r =
    let p = err_from_is_err_and c.from_residual.result c.from_residual.ensures.1 in
    rw (p.1, p.2)
    (two-err _ (Denotes arrays) c.is_value.result c.agrees.result _ _ c.least.result _ _ c.least.ensures (c.is_value.ensures arrays) (c.agrees.ensures arrays a l r) c.in_err-refuse.ensures)

pub returns : goal.returns
returns c arrays a l r =
    rw (two-ok c.is_value.result c.agrees.result _ _ c.least.result _ (Some (bits 1)) c.least.ensures (c.is_value.ensures arrays) (c.agrees.ensures arrays a l r) c.in_ok-refuse.ensures)
    (refl, tt)
