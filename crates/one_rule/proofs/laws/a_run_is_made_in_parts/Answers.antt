use Rattle.one_rule.proofs.Runs.{runs_in_parts}
use Rattle.one_rule.proofs.laws.a_run_is_made_in_parts.Goals as goal

pub returns : goal.returns
returns c = runs_in_parts
