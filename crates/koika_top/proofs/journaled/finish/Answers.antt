use Rattle.std.proofs.Common.{sym, subst, ◌∙◌}
use Rattle.one_rule.specs.Rows.{RowsFit}
use Rattle.board_core.specs.Board.{Opening}
use Rattle.cycle_driver.proofs.Rows.{rows_fit}
use Rattle.koika_top.proofs.Records.{whole}
use Rattle.koika_top.proofs.journaled.finish.Goals as goal

pub returns-clause-fit : goal.returns-clause-fit
returns-clause-fit c =
    let o = c.go_on.new.core.opening in
    let past = c.in_ok-go_on.ensures.finished c.if-branch.false in
    let fits : RowsFit o.design c.into_rows-rows.result = subst (RowsFit o.design) (sym (c.into_rows-rows.ensures.whole past)) (rows_fit o c.into_rows-rows.ensures.plain.opening) in
    subst (λ (p : Opening). RowsFit p.design c.into_rows-rows.result) (c.go_on.ensures.opening ∙ c.cycles.invariant.same) fits

pub returns-clause-whole : goal.returns-clause-whole
returns-clause-whole c =
    whole c.args.worker c.go_on.new.entries c.go_on.new.core c.args.core.opening c.in_ok-go_on.ensures.record (c.in_ok-go_on.ensures.finished c.if-branch.false) (c.go_on.ensures.opening ∙ c.cycles.invariant.same)
