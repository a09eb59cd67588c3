-- Weights and depths as the code counts them. They may be exponential in the text, so what is above a limit is counted as
-- one more than the limit. All but `capped` serve private functions alone.
use Rattle.std.specs.Prelude.{ℕ, ◌+◌, min}
use Rattle.koika_check.specs.Sizes.{Size}
use Rattle.koika_check.specs.declared.measure.Measure.{Measure}
use Rattle.koika_check.specs.declared.measure.TheConstants.{MAX_WEIGHT, MAX_DEPTH}

abbrev pub counted : (weight depth : ℕ) → Measure
counted weight depth = record { weight = weight; depth = depth }

-- how a size is counted
abbrev pub capped : Size → Measure
capped s = counted (min s.weight (MAX_WEIGHT + 1)) (min s.depth (MAX_DEPTH + 1))
