use Rattle.std.proofs.Common.{arith}
use Rattle.stim_report.proofs.TotalsOfBatches.{hex_has_room}
use Rattle.stim_report.proofs.tally.hex.Goals as goal

pub push_hex-requires : goal.push_hex-requires
push_hex-requires c = hex_has_room c.in_ok-digits.digits c.args.value _ c.in_ok-digits.ensures (first_of (omega (arith, c.div_ceil.ensures, c.width.ensures.width), grind (arith, c.div_ceil.ensures, c.width.ensures.width)))
