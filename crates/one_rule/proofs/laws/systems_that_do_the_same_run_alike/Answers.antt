use Rattle.one_rule.proofs.Alike.{same_cycles, same_runs}
use Rattle.one_rule.proofs.laws.systems_that_do_the_same_run_alike.Goals as goal

pub returns : goal.returns
returns c = record { cycles = same_cycles; runs = same_runs }
