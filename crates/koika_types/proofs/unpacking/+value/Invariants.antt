use Rattle.std.proofs.Common.{◌+◌, ◌*◌}
use Rattle.koika_types.specs.declared.ty.Ty.TheVariants.{Struct}
use Rattle.koika_types.proofs.Ranks.{rank}
use Rattle.koika_types.proofs.PartsSoFar.{FieldsSoFar, ItemsSoFar}
use Rattle.koika_types.proofs.unpacking.+value.Given as goal

abbrev pub decreases-value_of : goal.decreases-value_of
decreases-value_of l = 2 * rank l.types.now l.ty.now + 1

abbrev pub decreases-fields_of : goal.decreases-fields_of
decreases-fields_of l = 2 * rank l.types.now (Struct l.number)

abbrev pub decreases-items_of : goal.decreases-items_of
decreases-items_of l = 2 * rank l.types.now l.item.now + 2

abbrev pub invariant-fields_of-loop-field : goal.invariant-fields_of-loop-field
invariant-fields_of-loop-field l = FieldsSoFar l.types l.fields l.bits l.field-index l.values l.above

abbrev pub invariant-items_of-loop-index : goal.invariant-items_of-loop-index
invariant-items_of-loop-index l = ItemsSoFar l.types l.item l.bits l.width l.index l.values
