use Rattle.typed_core.specs.Widths.{register_widths}
use Rattle.typed_core.proofs.Events.{after_fits}
use Rattle.one_rule.proofs.cycle.visit.Goals as goal

pub returns-clause-fits : goal.returns-clause-fits
returns-clause-fits c =
    rw c.apply.ensures (after_fits (register_widths c.args.env.now.design.now) c.in_ok-run.run'.events c.args.state.now.regs c.in_ok-run.ensures.fits c.requires.registers)
