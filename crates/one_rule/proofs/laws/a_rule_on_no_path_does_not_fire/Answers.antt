use Rattle.one_rule.proofs.Runs.{fires_on_path_in_runs}
use Rattle.one_rule.proofs.Walks.{fires_on_path}
use Rattle.one_rule.proofs.laws.a_rule_on_no_path_does_not_fire.Goals as goal

pub returns : goal.returns
returns c = record { cycle = fires_on_path; run = fires_on_path_in_runs }
