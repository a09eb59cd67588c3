use Rattle.std.proofs.Common.{sym, ◌∙◌, subst}
use Rattle.typed_core.specs.Fits.{EventsFit}
use Rattle.typed_core.specs.Widths.{register_widths}
use Rattle.typed_core.proofs.Events.{after_fits}
use Rattle.one_rule.specs.Cycle.{system_of}
use Rattle.lab_core.proofs.Visits.{fired_shows, visit_fired, visit_refused}
use Rattle.lab_core.proofs.walk.visit.Goals as goal

pub returns-in_ok-push-in-Fired-clause-visit : goal.returns-in_ok-push-in-Fired-clause-visit
returns-in_ok-push-in-Fired-clause-visit c =
    visit_fired (system_of c.args.env.now.design.now) c.args.env.now.inputs.now c.args.node.now c.args.regs.now c.args.tried.now c.in_ok-run.run'
    c.judge-judged.result.verdict c.truncate.new.self c.in_ok-run.ensures.alone
    (c.judge-judged.ensures.verdict, c.truncate.ensures ∙ c.judge-judged.ensures.shown)
    c.apply.new.regs c.push.new.self c.in-Fired.is c.apply.ensures c.in_ok-push-in-Fired.ensures

pub returns-in_ok-push-in-Fired-clause-fits : goal.returns-in_ok-push-in-Fired-clause-fits
returns-in_ok-push-in-Fired-clause-fits c =
    let widths = register_widths c.args.env.now.design.now in
    let same = fired_shows c.args.tried.now c.in_ok-run.run' c.judge-judged.result.verdict c.truncate.new.self
    (c.judge-judged.ensures.verdict, c.truncate.ensures ∙ c.judge-judged.ensures.shown) c.in-Fired.is in
    rw c.apply.ensures (after_fits widths c.truncate.new.self c.args.regs.now (subst (EventsFit widths) (sym same) c.in_ok-run.ensures.fits) c.requires.registers)

pub returns-in_ok-push-in-Refused-clause-visit : goal.returns-in_ok-push-in-Refused-clause-visit
returns-in_ok-push-in-Refused-clause-visit c =
    visit_refused (system_of c.args.env.now.design.now) c.args.env.now.inputs.now c.args.node.now c.args.regs.now c.args.tried.now c.in_ok-run.run'
    c.judge-judged.result.verdict c.truncate.new.self c.in_ok-run.ensures.alone
    (c.judge-judged.ensures.verdict, c.truncate.ensures ∙ c.judge-judged.ensures.shown)
    c.push-in-Refused.new.self c.in-Refused.field-0 c.in-Refused.is c.in_ok-push-in-Refused.ensures
