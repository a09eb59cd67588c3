use Rattle.std.proofs.Common.{◌≤◌, ◌^◌, arith}
use Rattle.std.proofs.Math.Pow.{pow_mono}
use Rattle.btor2_model.proofs.numeral.value_below.Goals as goal

pub returns-in_default-2 : goal.returns-in_default-2
returns-in_default-2 c = λ fits.
    let most : 2 ^ c.args.width ≤ 2 ^ 128 = pow_mono c.requires in
    c.in_default.ensures (rw c.radix.ensures.value (omega (arith, most, fits)))
