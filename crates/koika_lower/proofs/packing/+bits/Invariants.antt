use Rattle.std.proofs.Common.{◌≡◌, List, map, take}
use Rattle.koika_types.specs.Values.{packed, stacked, stacked_up}
use Rattle.koika_check.specs.declared.checked.Checked.{Checked}
use Rattle.koika_check.specs.declared.typed.ValueType.{ValueType}
use Rattle.koika_lower.specs.inner.Packing.{AreParts, so_far}
use Rattle.koika_lower.proofs.packing.+bits.Given as goal

abbrev pub invariant-from_the_top-loop-value : goal.invariant-from_the_top-loop-value
invariant-from_the_top-loop-value l = (d : Checked) (types : List ValueType) → AreParts d types l.values → so_far l.all ≡ stacked (map packed (take l.value-index l.values))

abbrev pub invariant-from_the_bottom-loop-value : goal.invariant-from_the_bottom-loop-value
invariant-from_the_bottom-loop-value l = (d : Checked) (types : List ValueType) → AreParts d types l.values → so_far l.all ≡ stacked_up (map packed (take l.value-index l.values))
