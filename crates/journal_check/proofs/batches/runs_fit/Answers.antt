use Rattle.journal_check.proofs.RunsOfBatches.{design_runs_fit}
use Rattle.journal_check.proofs.batches.runs_fit.Goals as goal

pub returns : goal.returns
returns c = design_runs_fit c.args.design.now c.args.stimulus.now c.recall.ensures c.requires c.recall-2.ensures
