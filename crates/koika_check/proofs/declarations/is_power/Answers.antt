use Rattle.koika_check.proofs.Declaring.{not-power}
use Rattle.koika_check.proofs.declarations.is_power.Goals as goal

pub returns-else-width-lt64 : goal.returns-else-width-lt64
returns-else-width-lt64 c = not-power c.args.count c.args.width c.ranges.count.fits c.if-width-lt64.false
