use Rattle.std.proofs.Common.{◌/◌, ◌%◌, ◌^◌, ap, ◌∙◌, lit<, arith}
use Rattle.std.proofs.Math.Nat.{one-mul}
use Rattle.std.proofs.lemmas.Nat.{shl_whole}
use Rattle.kw_bits.specs.Host.{low_half}
use Rattle.kw_bits.proofs.Halves.{low_half-lt}
use Rattle.host_fn.proofs.answer.low_half.Goals as goal

pub returns : goal.returns
unfolding low_half
returns c =
    let x = c.args.x in
    let whole = shl_whole 1 1 (x.width / 2) 64 (lit< tt) (omega arith) in
    let half = ap (λ m. x.number % m) (whole ∙ one-mul (2 ^ (x.width / 2))) in
    rw (c.number.ensures.number, c.width.ensures.width) (record { half = half; below = rw half (low_half-lt x.width x.number) })
