use Rattle.std.specs.Arc.{arc_value}
use Rattle.std.proofs.Common.{◌≡◌, drop, ap, ◌∙◌}
use Rattle.journal_check.proofs.RunsOfBatches.{batch_rows}
use Rattle.journal_check.proofs.batches.recheck_batch.Goals as goal
use Rattle.one_rule.specs.declared.rows.Row.{Row}

pub returns-clause-rows : goal.returns-clause-rows
returns-clause-rows c =
    let later : c.later_rows.result.now ≡ drop 1 c.in_ok-core.core.rows = c.later_rows.ensures ∙ ap (drop {A = Row} 1) c.rows.ensures.rows in
    (batch_rows (arc_value c.args.workload.now.design) (arc_value c.args.workload.now.stimulus) c.args.n c.args.done.now.cycle c.args.regs c.args.batch.now c.in_ok-core.core c.args.done.now.rows c.add_rows.new.rows c.later_rows.result.now
    c.rows.ensures.plain c.in_ok-core.ensures.leaves c.in_ok-core.ensures.closes (c.is_due.ensures.0 c.if-not-is_due.false) c.requires.registers c.requires.rows c.in_ok-add_rows.ensures later).0

pub returns-clause-left : goal.returns-clause-left
returns-clause-left c =
    let later : c.later_rows.result.now ≡ drop 1 c.in_ok-core.core.rows = c.later_rows.ensures ∙ ap (drop {A = Row} 1) c.rows.ensures.rows in
    (batch_rows (arc_value c.args.workload.now.design) (arc_value c.args.workload.now.stimulus) c.args.n c.args.done.now.cycle c.args.regs c.args.batch.now c.in_ok-core.core c.args.done.now.rows c.add_rows.new.rows c.later_rows.result.now
    c.rows.ensures.plain c.in_ok-core.ensures.leaves c.in_ok-core.ensures.closes (c.is_due.ensures.0 c.if-not-is_due.false) c.requires.registers c.requires.rows c.in_ok-add_rows.ensures later).1
