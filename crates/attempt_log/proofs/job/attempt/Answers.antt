use Rattle.std.proofs.Common.{◌≡◌, subst, ◌∙◌}
use Rattle.std.specs.Arc.{arc_value}
use Rattle.typed_core.specs.Fits.{EventsFit}
use Rattle.typed_core.specs.Widths.{register_widths}
use Rattle.typed_core.specs.declared.design.Parts.{Parts}
use Rattle.one_rule.specs.Cycle.{system_of}
use Rattle.one_rule.specs.Externs.{kept}
use Rattle.attempt_log.proofs.Traces.{attempt_of_alone}
use Rattle.attempt_log.proofs.job.attempt.Goals as goal

pub invariant_of-result : goal.invariant_of-result
invariant_of-result c =
    let job = c.args.job.now in
    let run = c.in_ok-run.run' in
    record {
      attempt = attempt_of_alone (kept (arc_value job.externs)) (arc_value job.design) (arc_value c.in_ok-try_clone.field-0) _ job.rule job.inputs c.in_ok-from_slice.field-0 job.regs run c.requires
          c.in_ok-try_clone.ensures (c.in_ok-from_slice.ensures ∙ c.as_slice.ensures)
          (subst (λ (d : Parts). run ≡ (system_of d).alone job.rule job.inputs job.regs) c.deref.ensures c.in_ok-run.ensures.alone)
          (subst (λ (d : Parts). EventsFit (register_widths d) run.events) c.deref.ensures c.in_ok-run.ensures.fits);
      sources = c.in_ok-sources.ensures;
    }
