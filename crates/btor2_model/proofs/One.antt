-- 1 is a number at each width, and a value that is there has its width.
use Rattle.std.proofs.Common.{◌≡◌, ℕ, ◌≤◌, Option, None, Some, IsSome, IfSome, arith}
use Rattle.std.proofs.Math.Pow.{pow-lt}
use Rattle.kw_bits.specs.BitVector.{BitVector, IsBitVector}
use Rattle.btor2_model.specs.SlowRun.{HasValue}

pub one-fits : (width : ℕ) → 1 ≤ width → width ≤ 128 → IsBitVector width 1
one-fits width some most = record { some_bit = some; no_wider = most; in_range = pow-lt {i = 0} {j = width} (omega (arith, some)) }

pub has-value : (found : Option BitVector) (width : ℕ) → IsSome found → IfSome found (λ v. v.width ≡ width) → HasValue found width
has-value None width some is = absurd (cc)
has-value (Some v) width some is = is
