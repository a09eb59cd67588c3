use Rattle.one_rule.proofs.Alike.{equal_designs_cycle_alike, equal_designs_run_alike}
use Rattle.one_rule.proofs.laws.equal_designs_run_alike.Goals as goal

pub returns : goal.returns
returns c = record { cycles = equal_designs_cycle_alike; runs = equal_designs_run_alike }
