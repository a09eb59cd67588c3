use Rattle.one_rule.proofs.PortRuns.{port_cycles_are_cycles}
use Rattle.one_rule.proofs.laws.cycles_of_port_runs_are_cycles.Goals as goal

pub returns : goal.returns
returns c = port_cycles_are_cycles
