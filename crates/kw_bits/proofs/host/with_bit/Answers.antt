use Rattle.std.proofs.Common.{bit_or, ap, ◌∙◌, arith}
use Rattle.std.proofs.lemmas.Nat.{shl_whole, or_shifted}
use Rattle.kw_bits.proofs.host.with_bit.Goals as goal

pub returns : goal.returns
returns c =
    let a = c.args in
    ap (λ n. bit_or n a.number) (shl_whole a.bit 1 a.i 64 c.requires.small (omega arith)) ∙ or_shifted a.bit a.i a.number c.requires.below
