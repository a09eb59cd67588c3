use Rattle.aig_blast.proofs.SimValues.{set-both}
use Rattle.aig_blast.proofs.sim.put_value.Goals as goal

pub returns : goal.returns
returns c = set-both c.args.values.now c.args.variable c.args.value c.requires
