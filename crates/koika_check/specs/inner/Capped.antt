-- What private functions alone cite of this crate's `Capped`.
use Rattle.std.specs.Prelude.{ℕ, ◌+◌, min, max}
use Rattle.koika_check.specs.declared.measure.Measure.{Measure}
use Rattle.koika_check.specs.declared.measure.TheConstants.{MAX_WEIGHT, MAX_DEPTH}
use Rattle.koika_check.specs.Capped.{counted}

-- both weights, and the greater depth; so much deeper; so much heavier
abbrev pub both : Measure → Measure → Measure
both a b = counted (min (a.weight + b.weight) (MAX_WEIGHT + 1)) (max a.depth b.depth)

abbrev pub deeper : ℕ → Measure → Measure
deeper depth a = counted a.weight (min (a.depth + depth) (MAX_DEPTH + 1))

abbrev pub heavier : ℕ → Measure → Measure
heavier weight a = counted (min (a.weight + weight) (MAX_WEIGHT + 1)) a.depth
