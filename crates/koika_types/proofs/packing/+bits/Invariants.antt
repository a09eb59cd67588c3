use Rattle.std.proofs.Common.{◌≡◌, ◌+◌, ◌*◌, map, sum_by, take}
use Rattle.koika_types.proofs.Counts.{count}
use Rattle.koika_types.specs.Values.{packed, stacked, stacked_up}
use Rattle.koika_types.proofs.packing.+bits.Given as goal

abbrev pub invariant-from_the_top-loop-index : goal.invariant-from_the_top-loop-index
invariant-from_the_top-loop-index l = l.bits ≡ stacked (map packed (take l.index l.values))

abbrev pub invariant-from_the_bottom-loop-index : goal.invariant-from_the_bottom-loop-index
invariant-from_the_bottom-loop-index l = l.bits ≡ stacked_up (map packed (take l.index l.values))

abbrev pub decreases-bits_of : goal.decreases-bits_of
decreases-bits_of l = 2 * count l.value.now

abbrev pub decreases-from_the_top : goal.decreases-from_the_top
decreases-from_the_top l = 2 * sum_by count l.values.now + 1

abbrev pub decreases-from_the_bottom : goal.decreases-from_the_bottom
decreases-from_the_bottom l = 2 * sum_by count l.values.now + 1
