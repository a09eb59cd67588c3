use Rattle.std.proofs.Common.{sym, subst}
use Rattle.one_rule.specs.Rows.{RowsFit}
use Rattle.board_core.specs.Board.{Opening}
use Rattle.cycle_driver.proofs.Rows.{rows_fit}
use Rattle.cycle_driver.proofs.finish.finished_rows.Goals as goal

pub returns-clause-fit : goal.returns-clause-fit
returns-clause-fit c =
    let o = c.in_ok-done.done.opening in
    let fits : RowsFit o.design c.into_rows.result = subst (RowsFit o.design) (sym (c.into_rows.ensures.whole c.in_ok-done.ensures.finished)) (rows_fit o c.into_rows.ensures.plain.opening) in
    subst (λ (p : Opening). RowsFit p.design c.into_rows.result) c.in_ok-done.ensures.opening fits
