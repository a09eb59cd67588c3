use Rattle.std.proofs.Common.{ap, ◌∙◌}
use Rattle.std.specs.Prelude.{slice_set}
use Rattle.one_rule.specs.declared.rows.Row.{Row}
use Rattle.koika_top.proofs.PlainRows.{batch-rows, has-run, made-some}
use Rattle.koika_top.proofs.plain_engine.PlainEngineEngine.batch.Goals as goal

pub go_on-requires : goal.go_on-requires
go_on-requires c =
    let engine = c.args.self.now in
    made-some engine.design.now engine.stimulus.now engine.at c.args.to c.requires.order engine.last c.requires.stands c.in_ok-rows.rows c.in_ok-rows.ensures.run

pub returns-clause-rows : goal.returns-clause-rows
returns-clause-rows c =
    let engine = c.args.self.now in
    batch-rows engine.design.now engine.stimulus.now engine.at c.args.to c.requires.order engine.last c.requires.stands c.in_ok-rows.rows c.in_ok-rows.ensures.run _
    (c.in_ok-last.ensures.rows ∙ ap (λ (row : Row). slice_set c.in_ok-rows.rows 0 row) c.replace-first.ensures.value)

pub returns-clause-stands : goal.returns-clause-stands
returns-clause-stands c =
    let engine = c.args.self.now in
    has-run engine.design.now engine.stimulus.now engine.at c.args.to c.requires.order engine.last c.requires.stands c.in_ok-rows.rows c.in_ok-rows.ensures.run _ _
    (c.in_ok-last.ensures.rows ∙ ap (λ (row : Row). slice_set c.in_ok-rows.rows 0 row) c.replace-first.ensures.value) c.in_ok-last.ensures.last c.in_ok-rows.ensures.fit
