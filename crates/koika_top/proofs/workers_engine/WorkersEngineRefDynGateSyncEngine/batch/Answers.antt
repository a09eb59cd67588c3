use Rattle.std.proofs.Common.{ap, ◌∙◌}
use Rattle.std.specs.Arc.{arc_value}
use Rattle.std.specs.Prelude.{slice_set}
use Rattle.one_rule.specs.declared.rows.Row.{Row}
use Rattle.koika_top.proofs.PlainRows.{batch-rows, has-run, made-some}
use Rattle.koika_top.proofs.workers_engine.WorkersEngineRefDynGateSyncEngine.batch.Goals as goal

pub go_on-requires : goal.go_on-requires
go_on-requires g c =
    let engine = c.args.self.now in
    made-some (arc_value engine.lowered.now.design) (arc_value engine.lowered.now.stimulus) engine.at c.args.to c.requires.order engine.last c.requires.stands.1 c.in_ok-rows.rows c.in_ok-rows.ensures.run

pub returns-clause-rows : goal.returns-clause-rows
returns-clause-rows g c =
    let engine = c.args.self.now in
    batch-rows (arc_value engine.lowered.now.design) (arc_value engine.lowered.now.stimulus) engine.at c.args.to c.requires.order engine.last c.requires.stands.1 c.in_ok-rows.rows c.in_ok-rows.ensures.run _
    (c.in_ok-last.ensures.rows ∙ ap (λ (row : Row). slice_set c.in_ok-rows.rows 0 row) c.replace-first.ensures.value)

pub returns-clause-stands : goal.returns-clause-stands
returns-clause-stands g c =
    let engine = c.args.self.now in (
      c.requires.stands.0,
      has-run (arc_value engine.lowered.now.design) (arc_value engine.lowered.now.stimulus) engine.at c.args.to c.requires.order engine.last c.requires.stands.1 c.in_ok-rows.rows c.in_ok-rows.ensures.run _ _
          (c.in_ok-last.ensures.rows ∙ ap (λ (row : Row). slice_set c.in_ok-rows.rows 0 row) c.replace-first.ensures.value) c.in_ok-last.ensures.last c.in_ok-rows.ensures.fit,
    )
