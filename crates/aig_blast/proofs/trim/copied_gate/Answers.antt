use Rattle.aig_blast.proofs.Trimming.{moved-stands}
use Rattle.aig_blast.proofs.trim.copied_gate.Goals as goal

pub and-requires-clause-a : goal.and-requires-clause-a
and-requires-clause-a c = moved-stands c.args.copy.now c.args.places.now c.args.gate.left c.moved.result c.requires c.moved.ensures

pub and-requires-clause-b : goal.and-requires-clause-b
and-requires-clause-b c = moved-stands c.args.copy.now c.args.places.now c.args.gate.right c.moved-2.result c.requires c.moved-2.ensures
