use Rattle.std.proofs.Common.{sym, ◌∙◌}
use Rattle.stim_report.proofs.BitsOfNumbers.{bits_none, bits_new}
use Rattle.stim_report.proofs.value.bits_of.Goals as goal

pub returns-in_err-number_of : goal.returns-in_err-number_of
returns-in_err-number_of c = c.from_residual.ensures ∙ sym (bits_none c.args.width _ c.requires.width c.in_err-number_of.ensures)

pub returns : goal.returns
returns c =
    let is = c.in_ok-number_of.ensures.1 in
    rw (← is) (bits_new c.new.result c.args.width c.in_ok-number_of.field-0 c.requires.width c.new.ensures.some c.new.ensures.width c.new.ensures.number)
