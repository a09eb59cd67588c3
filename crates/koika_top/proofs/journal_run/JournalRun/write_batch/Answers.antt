use Rattle.std.proofs.Common.{inr, refl, ap, ◌∙◌, arith}
use Rattle.std.proofs.lemmas.Result.{err_from_is_err_and}
use Rattle.std.specs.Arc.{arc_value}
use Rattle.typed_core.specs.declared.design.Parts.{Parts}
use Rattle.one_rule.specs.Cycle.{system_of}
use Rattle.one_rule.specs.Stimulus.{inputs_of}
use Rattle.board_core.specs.Position.{IsOpening}
use Rattle.journal_check.specs.Journals.{lines_of_batch}
use Rattle.journal_check.specs.Printing.{text_of}
use Rattle.koika_top.specs.Histories.{board_of}
use Rattle.koika_top.proofs.JournalBatches.{left_wide, some-row, wrote, wrote_front}
use Rattle.front_end.proofs.Told.{told-none}
use Rattle.koika_top.proofs.journal_run.JournalRun.write_batch.Goals as goal

pub last_regs-requires : goal.last_regs-requires
last_regs-requires g c =
    let run = c.args.self.now in
    some-row (system_of (arc_value run.lowered.design)) (inputs_of (arc_value run.lowered.stimulus)) c.args.regs c.args.ends.from c.args.ends.to _ c.in_ok-made.ensures.run

pub returns-in_err-made-clause-batch : goal.returns-in_err-made-clause-batch
returns-in_err-made-clause-batch g c =
    let p = err_from_is_err_and c.from_residual.result c.from_residual.ensures.1 in
    rw (p.1, p.2) (inr (refl, told-none _ _ _))

pub returns-in_err-left-clause-batch : goal.returns-in_err-left-clause-batch
returns-in_err-left-clause-batch g c =
    let p = err_from_is_err_and c.from_residual-in_err-left.result c.from_residual-in_err-left.ensures.1 in
    rw (p.1, p.2) (inr (refl, told-none _ _ _))

pub returns-in_err-text-clause-batch : goal.returns-in_err-text-clause-batch
returns-in_err-text-clause-batch g c =
    let p = err_from_is_err_and c.from_residual-in_err-text.result c.from_residual-in_err-text.ensures.1 in
    rw (p.1, p.2) (inr (refl, told-none _ _ _))

pub returns-in_err-write_text-clause-batch : goal.returns-in_err-write_text-clause-batch
returns-in_err-write_text-clause-batch g c =
    let run = c.args.self.now in
    let design = arc_value run.lowered.design in
    let stimulus = arc_value run.lowered.stimulus in
    let fits = c.fits.ensures in
    let made = c.in_ok-made in
    let begins : IsOpening (board_of design stimulus c.args.regs c.args.ends.from c.args.ends.to) = record { design = fits.design; stimulus = fits.stimulus; always = fits.always; registers = c.requires.registers; order = omega (arith, c.requires.order) } in
    let p = err_from_is_err_and c.from_residual-in_err-write_text.result c.from_residual-in_err-write_text.ensures.1 in
    rw (p.1, p.2)
    (wrote_front design stimulus run.workers c.args.regs c.args.ends.from c.args.ends.to begins made.made.entries made.ensures.whole made.made.rows made.ensures.run c.batch_of-batch.result _ _ _ c.batch_of-batch.ensures
    (c.as_slice.ensures ∙ c.in_ok-text.ensures ∙ ap (λ (d : Parts). text_of d (lines_of_batch c.batch_of-batch.result)) c.deref.ensures) c.in_err-write_text.ensures)

pub returns-clause-batch : goal.returns-clause-batch
returns-clause-batch g c =
    let run = c.args.self.now in
    let design = arc_value run.lowered.design in
    let stimulus = arc_value run.lowered.stimulus in
    let fits = c.fits.ensures in
    let made = c.in_ok-made in
    let begins : IsOpening (board_of design stimulus c.args.regs c.args.ends.from c.args.ends.to) = record { design = fits.design; stimulus = fits.stimulus; always = fits.always; registers = c.requires.registers; order = omega (arith, c.requires.order) } in
    wrote design stimulus run.workers c.args.regs c.args.ends.from c.args.ends.to begins made.made.entries made.ensures.whole made.made.rows made.ensures.run c.batch_of-batch.result c.in_ok-left.left _ _ _ c.batch_of-batch.ensures c.in_ok-left.ensures
    (c.as_slice.ensures ∙ c.in_ok-text.ensures ∙ ap (λ (d : Parts). text_of d (lines_of_batch c.batch_of-batch.result)) c.deref.ensures) c.in_ok-write_text.ensures

pub returns-clause-widths : goal.returns-clause-widths
returns-clause-widths g c =
    let run = c.args.self.now in
    let design = arc_value run.lowered.design in
    let stimulus = arc_value run.lowered.stimulus in
    let fits = c.fits.ensures in
    let made = c.in_ok-made in
    let begins : IsOpening (board_of design stimulus c.args.regs c.args.ends.from c.args.ends.to) = record { design = fits.design; stimulus = fits.stimulus; always = fits.always; registers = c.requires.registers; order = omega (arith, c.requires.order) } in
    left_wide design stimulus run.workers c.args.regs c.args.ends.from c.args.ends.to begins made.made.entries made.ensures.whole made.made.rows made.ensures.run c.in_ok-left.left c.in_ok-left.ensures
