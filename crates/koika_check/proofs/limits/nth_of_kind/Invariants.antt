use Rattle.std.proofs.Common.{◌≡◌, drop, slice_get}
use Rattle.std.specs.List.{flat_map}
use Rattle.koika_check.specs.inner.Places.{place_of_kind}
use Rattle.koika_check.proofs.limits.nth_of_kind.Given as goal

abbrev pub invariant-loop-declaration : goal.invariant-loop-declaration
invariant-loop-declaration l =
    slice_get (flat_map (place_of_kind l.kind) (drop l.declaration-index l.declarations)) l.left ≡ slice_get (flat_map (place_of_kind l.kind) l.declarations) l.count
