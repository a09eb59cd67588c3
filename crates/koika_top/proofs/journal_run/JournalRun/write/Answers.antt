use Rattle.std.proofs.Common.{◌≡◌, ◌+◌, Ok, subst, ap, ◌∙◌, arith}
use Rattle.std.specs.Prelude.{min}
use Rattle.std.proofs.lemmas.Result.{err_from_is_err_and}
use Rattle.std.specs.Arc.{arc_value}
use Rattle.typed_core.specs.Widths.{HaveWidths, register_widths}
use Rattle.typed_core.specs.declared.design.Parts.{Parts}
use Rattle.one_rule.specs.Run.{first_values}
use Rattle.koika_top.proofs.JournalBatches.{ends, goes_on, opened_front, opened_on, opened_only, stops, unbegun}
use Rattle.koika_top.proofs.journal_run.JournalRun.write.Goals as goal

pub returns-in_err-begin : goal.returns-in_err-begin
returns-in_err-begin g c =
    let run = c.args.self.now in
    let fits = c.fits.ensures in
    let p = err_from_is_err_and c.from_residual.result c.from_residual.ensures.1 in
    rw (p.1, p.2) (unbegun (arc_value run.lowered.design) fits.design (arc_value run.lowered.stimulus) fits.stimulus fits.always run.cycles run.workers _ _)

pub returns-in_err-write_text : goal.returns-in_err-write_text
returns-in_err-write_text g c =
    let run = c.args.self.now in
    let fits = c.fits.ensures in
    let p = err_from_is_err_and c.from_residual-in_err-write_text.result c.from_residual-in_err-write_text.ensures.1 in
    rw (p.1, p.2)
    (opened_front (arc_value run.lowered.design) fits.design (arc_value run.lowered.stimulus) fits.stimulus fits.always run.cycles run.workers _ _ _ (c.as_slice.ensures ∙ c.in_ok-begin.ensures) c.in_err-write_text.ensures)

pub returns-in_err-regs : goal.returns-in_err-regs
returns-in_err-regs g c =
    let run = c.args.self.now in
    let fits = c.fits.ensures in
    let p = err_from_is_err_and c.from_residual-in_err-regs.result c.from_residual-in_err-regs.ensures.1 in
    rw (p.1, p.2)
    (opened_only (arc_value run.lowered.design) fits.design (arc_value run.lowered.stimulus) fits.stimulus fits.always run.cycles run.workers _ _ _ (c.as_slice.ensures ∙ c.in_ok-begin.ensures) c.in_ok-write_text.ensures)

pub loop-from-init : goal.loop-from-init
loop-from-init g c =
    let run = c.args.self.now in
    let fits = c.fits.ensures in
    let regs = c.in_ok-regs.regs in
    record {
      order = omega arith;
      wide = subst (λ (d : Parts). HaveWidths (register_widths d) regs) c.deref.ensures c.in_ok-regs.ensures.fit;
      so_far = opened_on (arc_value run.lowered.design) fits.design (arc_value run.lowered.stimulus) fits.stimulus fits.always run.cycles run.workers _ regs _ (Ok tt) (c.as_slice.ensures ∙ c.in_ok-begin.ensures) (c.in_ok-regs.ensures.values ∙ ap first_values c.deref.ensures) c.in_ok-write_text.ensures;
    }

pub returns-in_err-regs-2 : goal.returns-in_err-regs-2
returns-in_err-regs-2 g c =
    let run = c.args.self.now in
    let fits = c.fits.ensures in
    let so_far = c.loop-from.invariant in
    let due : c.min-to.result ≡ min (c.loop-from.from + 256) run.cycles = omega (arith, c.min-to.ensures) in
    let p = err_from_is_err_and c.from_residual-in_err-regs-2.result c.from_residual-in_err-regs-2.ensures.1 in
    rw (p.1, p.2)
    (stops (arc_value run.lowered.design) fits.design (arc_value run.lowered.stimulus) fits.stimulus fits.always run.cycles run.workers c.loop-from.from c.min-to.result c.loop-from.regs so_far.wide due c.loop-from-test.true _ _ _ _ _ _ tt so_far.so_far
    _ c.in_err-regs-2.ensures.batch)

pub loop-from-preserved : goal.loop-from-preserved
loop-from-preserved g c =
    let run = c.args.self.now in
    let fits = c.fits.ensures in
    let so_far = c.loop-from.invariant in
    let due : c.min-to.result ≡ min (c.loop-from.from + 256) run.cycles = omega (arith, c.min-to.ensures) in
    record {
      order = omega (arith, due);
      wide = c.in_ok-regs-2.ensures.widths;
      so_far = goes_on (arc_value run.lowered.design) fits.design (arc_value run.lowered.stimulus) fits.stimulus fits.always run.cycles run.workers c.loop-from.from c.min-to.result c.loop-from.regs so_far.wide due c.loop-from-test.true _ _ _ _ _ _ tt so_far.so_far
          _ c.in_ok-regs-2.ensures.batch;
    }

pub returns : goal.returns
returns g c =
    let run = c.args.self.now in
    let so_far = c.loop-from.invariant in
    ends (arc_value run.lowered.design) (arc_value run.lowered.stimulus) run.cycles run.workers c.loop-from.from c.loop-from.regs _ tt (omega (arith, so_far.order, c.loop-from-test.false)) so_far.so_far
