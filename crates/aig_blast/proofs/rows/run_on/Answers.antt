use Rattle.std.proofs.Common.{◌-◌}
use Rattle.one_rule.specs.Stimulus.{inputs_of}
use Rattle.aig_blast.specs.AigSims.{after_steps}
use Rattle.aig_blast.proofs.AigRows.{rows-are}
use Rattle.aig_blast.proofs.rows.run_on.Goals as goal

pub returns-clause-rows : goal.returns-clause-rows
returns-clause-rows c = rw (rows-are (inputs_of c.args.stimulus.now) (c.args.to - c.args.from) c.args.from c.args.sim.now) at c.run_machine.ensures.rows

pub returns-clause-sim : goal.returns-clause-sim
unfolding after_steps
returns-clause-sim c = c.run_machine.ensures.machine
