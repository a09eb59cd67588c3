use Rattle.std.proofs.Common.{subst, ◌∙◌, arith}
use Rattle.std.specs.Arc.{arc_value}
use Rattle.one_rule.specs.Run.{run_of}
use Rattle.one_rule.specs.Stimulus.{inputs_of}
use Rattle.koika_top.specs.inner.Telling.{TakesRows}
use Rattle.koika_top.proofs.Batches.{batch-fits, batch-is, batch-some}
use Rattle.koika_top.proofs.workers_engine.WorkersEngineRefDynGateSyncEngine.count.Goals as goal

pub batch-requires-clause-order : goal.batch-requires-clause-order
batch-requires-clause-order g c = omega (arith, c.requires.at, c.requires.order)

pub take-requires-clause-some : goal.take-requires-clause-some
take-requires-clause-some g c =
    let rows = run_of (arc_value c.args.self.now.lowered.now.design) (inputs_of (arc_value c.args.self.now.lowered.now.stimulus)) in
    batch-some rows c.requires.run c.args.ends.from c.args.ends.to (omega (arith, c.requires.order)) _ (batch-is rows _ c.args.ends.from c.args.ends.to _ c.requires.at c.in_ok-rows.ensures.rows)

pub take-requires-clause-fit : goal.take-requires-clause-fit
take-requires-clause-fit g c = batch-fits c.args.shape.now (run_of (arc_value c.args.self.now.lowered.now.design) (inputs_of (arc_value c.args.self.now.lowered.now.stimulus)) c.args.ends.to) c.in_ok-rows.rows c.args.self.now.at (c.requires.fit c.args.ends.to) c.in_ok-rows.ensures.rows

pub returns-clause-rows : goal.returns-clause-rows
returns-clause-rows g c marks =
    let rows = run_of (arc_value c.args.self.now.lowered.now.design) (inputs_of (arc_value c.args.self.now.lowered.now.stimulus)) in
    subst (TakesRows c.args.shape.now marks _ _) (batch-is rows _ c.args.ends.from c.args.ends.to _ c.requires.at c.in_ok-rows.ensures.rows) (c.in_ok-_text.ensures.rows marks)
