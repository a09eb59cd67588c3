use Rattle.one_rule.proofs.Runs.{runs_fit}
use Rattle.one_rule.proofs.laws.each_row_of_a_run_fits.Goals as goal

pub returns : goal.returns
returns c = runs_fit
