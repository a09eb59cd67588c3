use Rattle.aig_blast.proofs.SimValues.{get_or-lit}
use Rattle.aig_blast.proofs.sim.lit_value.Goals as goal

pub returns : goal.returns
returns c = get_or-lit c.args.values.now c.args.lit c.requires.below c.requires.both
