use Rattle.std.proofs.Common.{subst, ◌∙◌, arith}
use Rattle.one_rule.specs.Run.{run_of}
use Rattle.one_rule.specs.Stimulus.{inputs_of}
use Rattle.koika_top.specs.inner.Telling.{TakesRows}
use Rattle.koika_top.proofs.Batches.{batch-fits, batch-is, batch-some}
use Rattle.koika_top.proofs.plain_engine.PlainEngineEngine.count.Goals as goal

pub batch-requires-clause-order : goal.batch-requires-clause-order
batch-requires-clause-order c = omega (arith, c.requires.at, c.requires.order)

pub take-requires-clause-some : goal.take-requires-clause-some
take-requires-clause-some c =
    let rows = run_of c.args.self.now.design.now (inputs_of c.args.self.now.stimulus.now) in
    batch-some rows c.requires.run c.args.ends.from c.args.ends.to (omega (arith, c.requires.order)) _ (batch-is rows _ c.args.ends.from c.args.ends.to _ c.requires.at c.in_ok-rows.ensures.rows)

pub take-requires-clause-fit : goal.take-requires-clause-fit
take-requires-clause-fit c = batch-fits c.args.shape.now (run_of c.args.self.now.design.now (inputs_of c.args.self.now.stimulus.now) c.args.ends.to) c.in_ok-rows.rows c.args.self.now.at (c.requires.fit c.args.ends.to) c.in_ok-rows.ensures.rows

pub returns-clause-rows : goal.returns-clause-rows
returns-clause-rows c marks =
    let rows = run_of c.args.self.now.design.now (inputs_of c.args.self.now.stimulus.now) in
    subst (TakesRows c.args.shape.now marks _ _) (batch-is rows _ c.args.ends.from c.args.ends.to _ c.requires.at c.in_ok-rows.ensures.rows) (c.in_ok-_text.ensures.rows marks)
