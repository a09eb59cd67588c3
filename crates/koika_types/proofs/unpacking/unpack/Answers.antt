use Rattle.koika_types.proofs.Unique.{found_only}
use Rattle.koika_types.proofs.unpacking.unpack.Goals as goal

pub returns-clause-only : goal.returns-clause-only
returns-clause-only c = found_only c.args.types.now c.width_of.ensures.table c.args.ty.now c.args.bits c.value_of.result c.requires.valid c.value_of.ensures
