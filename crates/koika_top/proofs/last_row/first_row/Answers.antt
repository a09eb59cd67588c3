use Rattle.koika_top.proofs.PlainRows.{has-begun}
use Rattle.koika_top.proofs.last_row.first_row.Goals as goal

pub returns : goal.returns
returns c stimulus = has-begun c.args.design.now stimulus c.in_ok-regs.regs c.in_ok-last.last c.in_ok-regs.ensures.values c.in_ok-last.ensures.row c.in_ok-last.ensures.fits
