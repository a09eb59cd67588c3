use Rattle.std.proofs.Common.{◌≡◌, min, take}
use Rattle.koika_types.specs.Types.{total_width}
use Rattle.koika_types.proofs.table.total_width.Given as goal

abbrev pub invariant-loop-field : goal.invariant-loop-field
invariant-loop-field l = l.total ≡ min (total_width l.types (take l.field-index l.fields)) 129
