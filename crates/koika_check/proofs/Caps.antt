-- Counting by capped numbers is counting, and then the cap.
use Rattle.std.proofs.Common.{◌≡◌, ℕ, ◌+◌, min, max, ap, ap₂, arith}
use Rattle.koika_check.specs.Capped as counts
use Rattle.koika_check.specs.inner.Capped as inner_counts
use Rattle.koika_check.specs.Sizes as sizes
use Rattle.koika_check.specs.Sizes.{Size}

sums : (a b m : ℕ) → min (min a m + min b m) m ≡ min (a + b) m
sums a b m = grind arith

greatest : (a b m : ℕ) → max (min a m) (min b m) ≡ min (max a b) m
greatest a b m = grind arith

more : (a b m : ℕ) → min (min a m + b) m ≡ min (b + a) m
more a b m = grind arith

pub capped-both : (a b : Size) → inner_counts.both (counts.capped a) (counts.capped b) ≡ counts.capped (sizes.both a b)
capped-both a b = ap₂ counts.counted (sums a.weight b.weight 32769) (greatest a.depth b.depth 513)

pub capped-deeper : (depth : ℕ) (a : Size) → inner_counts.deeper depth (counts.capped a) ≡ counts.capped (sizes.deeper depth a)
capped-deeper depth a = ap (counts.counted (min a.weight 32769)) (more a.depth depth 513)

pub capped-heavier : (weight : ℕ) (a : Size) → inner_counts.heavier weight (counts.capped a) ≡ counts.capped (sizes.heavier weight a)
capped-heavier weight a = ap (λ w. counts.counted w (min a.depth 513)) (more a.weight weight 32769)

pub ruleset capping = (capped-both, capped-deeper, capped-heavier)
